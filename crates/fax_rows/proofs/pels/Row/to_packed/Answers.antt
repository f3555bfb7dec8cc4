use Rattle.std.proofs.Common.{arith}
use Rattle.fax_rows.proofs.PlacedB1Lemmas.{placed_width}
use Rattle.fax_rows.proofs.pels.Row.to_packed.Goals as goal

pub pack_row-requires : goal.pack_row-requires
pack_row-requires c = omega (arith, c.requires, placed_width c.elements.result c.args.self.now c.elements.ensures)
