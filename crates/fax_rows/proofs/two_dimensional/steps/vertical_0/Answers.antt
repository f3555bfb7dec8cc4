use Rattle.std.proofs.Common.{pos, arith}
use Rattle.std.proofs.lemmas.Int.{ints}
use Rattle.fax_rows.proofs.PlacedB1Lemmas.{b1_next}
use Rattle.fax_rows.proofs.PlacedStepLemmas.{b1_in_room, under_right, under_within}
use Rattle.fax_rows.proofs.two_dimensional.steps.vertical_0.Goals as goal

pub bounds-reference-at : goal.bounds-reference-at
bounds-reference-at c = omega (arith, b1_in_room c.requires.inside)

pub vertical_to-requires-clause-right : goal.vertical_to-requires-clause-right
vertical_to-requires-clause-right c = under_right c.requires.inside

pub vertical_to-requires-clause-within : goal.vertical_to-requires-clause-within
vertical_to-requires-clause-within c = under_within c.requires.inside

pub vertical_to-requires-clause-b1 : goal.vertical_to-requires-clause-b1
vertical_to-requires-clause-b1 c = λ h.
    b1_next c.args.reference (c.requires.inside.so_far.b1 c.requires.inside.unfinished) h

pub returns-clause-step : goal.returns-clause-step
returns-clause-step c = c.vertical_to.ensures.step (pos 0) (omega (arith, ints))
