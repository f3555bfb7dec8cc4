use Rattle.std.proofs.Common.{arith}
use Rattle.fax_rows.proofs.PlacedB1Lemmas.{b1_index, b2_is}
use Rattle.fax_rows.proofs.two_dimensional.canonical.chooses_a1.Goals as goal

pub bounds-reference-at : goal.bounds-reference-at
bounds-reference-at g c = omega (arith, b1_index c.args.reference c.args.at.b1 c.requires.b1.within)

pub returns-then-this-ne0 : goal.returns-then-this-ne0
returns-then-this-ne0 g c is = grind (arith, b2_is)
