use Rattle.std.proofs.Common.{arith}
use Rattle.fax_rows.proofs.PlacedRowLemmas.{pel_here}
use Rattle.fax_rows.proofs.pels.Row.pel.Goals as goal

pub returns : goal.returns
returns c = grind (arith, pel_here)
