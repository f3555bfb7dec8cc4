use Rattle.std.proofs.Common.{arith}
use Rattle.std.proofs.lemmas.Bool.{ltb-true}
use Rattle.fax_rows.proofs.PlacedB1Lemmas.{b1_index, b1_is, b2_is}
use Rattle.fax_rows.proofs.two_dimensional.canonical.chooses_runs.Goals as goal

pub bounds-reference-at : goal.bounds-reference-at
bounds-reference-at g c = omega (arith, b1_index c.args.reference c.args.at.b1 c.requires.b1.within)

pub bounds-reference-at-2 : goal.bounds-reference-at-2
bounds-reference-at-2 g c = omega (arith, b1_index c.args.reference c.args.at.b1 c.requires.b1.within)

pub returns-then-a1-b1-clause-left_hand : goal.returns-then-a1-b1-clause-left_hand
returns-then-a1-b1-clause-left_hand g c is = grind (arith, b2_is)

pub returns-then-a1-b1-clause-far : goal.returns-then-a1-b1-clause-far
returns-then-a1-b1-clause-far g c is = grind (arith, b1_is)

pub returns-else-a1-b1-clause-left_hand : goal.returns-else-a1-b1-clause-left_hand
returns-else-a1-b1-clause-left_hand g c is = grind (arith, b2_is)

pub returns-else-a1-b1-clause-far : goal.returns-else-a1-b1-clause-far
returns-else-a1-b1-clause-far g c is = grind (arith, ltb-true, b1_is)
