use Rattle.std.proofs.Common.{arith}
use Rattle.std.proofs.lemmas.Int.{ints}
use Rattle.fax_rows.specs.Rows.{other}
use Rattle.fax_rows.proofs.PlacedB1Lemmas.{left_start}
use Rattle.fax_rows.proofs.PlacedStepLemmas.{b1_in_room, number_right, under_within, row_begins}
use Rattle.fax_rows.proofs.two_dimensional.steps.vertical_left.Goals as goal

pub bounds-reference-at : goal.bounds-reference-at
bounds-reference-at c = omega (arith, b1_in_room c.requires.inside)

pub vertical_to-requires-clause-within : goal.vertical_to-requires-clause-within
vertical_to-requires-clause-within c = grind (arith, under_within)

pub vertical_to-requires-clause-b1 : goal.vertical_to-requires-clause-b1
vertical_to-requires-clause-b1 c = λ h.
    let at = c.args.at in
    c.b1_before-b1.ensures (other at.position.colour)
    (left_start c.args.reference at.position.a0 at.position.colour at.b1 _
    (c.requires.inside.so_far.b1 c.requires.inside.unfinished)
    (number_right at.position _ c.in_ok-column.ensures.right))

pub returns-clause-step : goal.returns-clause-step
returns-clause-step c = c.vertical_to.ensures.step c.args.d (omega (arith, ints, c.in_ok-column.ensures.place))

pub returns-in_err-column-clause-out : goal.returns-in_err-column-clause-out
returns-in_err-column-clause-out c =
    rw c.from_residual.ensures (λ in_row.
    let begins = row_begins c.requires.inside c.args.d in_row in
    omega (arith, ints, begins, c.in_err-column.ensures.none))
