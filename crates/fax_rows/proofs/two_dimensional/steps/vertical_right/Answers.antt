use Rattle.std.proofs.Common.{arith}
use Rattle.std.proofs.lemmas.Grind.{common_steps}
use Rattle.std.proofs.lemmas.Int.{ints}
use Rattle.fax_rows.specs.Rows.{other}
use Rattle.fax_rows.proofs.PlacedB1Lemmas.{right_start}
use Rattle.fax_rows.proofs.PlacedStepLemmas.{b1_in_room, under_right, row_ends}
use Rattle.fax_rows.proofs.two_dimensional.steps.vertical_right.Goals as goal

pub bounds-reference-at : goal.bounds-reference-at
bounds-reference-at c = omega (arith, b1_in_room c.requires.inside)

pub returns-then-column-reference-clause-out : goal.returns-then-column-reference-clause-out
returns-then-column-reference-clause-out c = λ in_row.
    let ends = row_ends c.requires.inside c.args.d in_row in
    omega (arith, ints, ends, c.from.ensures, c.unsigned_abs.ensures.value, c.requires.right.le)

pub vertical_to-requires-clause-right : goal.vertical_to-requires-clause-right
vertical_to-requires-clause-right c = grind (arith, common_steps, under_right, c.requires.inside)

pub vertical_to-requires-clause-b1 : goal.vertical_to-requires-clause-b1
vertical_to-requires-clause-b1 c = λ h.
    let at = c.args.at in
    c.b1_after-b1.ensures h (other at.position.colour)
    (right_start c.args.reference at.position.a0 at.position.colour at.b1 _
    (c.requires.inside.so_far.b1 c.requires.inside.unfinished) (omega arith) h)

pub returns-clause-step : goal.returns-clause-step
returns-clause-step c =
    c.vertical_to.ensures.step c.args.d (omega (
      arith,
      ints,
      c.from.ensures,
      c.unsigned_abs.ensures.value,
      c.requires.right.le,
    ))
