use Rattle.std.proofs.Common.{arith}
use Rattle.fax_rows.proofs.PlacedB1Lemmas.{placed_width}
use Rattle.fax_rows.proofs.put_rows.put_2d.Goals as goal

pub invariant_of-rows : goal.invariant_of-rows
invariant_of-rows c = grind (arith, placed_width)
