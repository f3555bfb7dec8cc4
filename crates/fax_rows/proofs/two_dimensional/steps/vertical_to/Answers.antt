use Rattle.std.proofs.Common.{arith}
use Rattle.std.proofs.lemmas.Int.{ints}
use Rattle.fax_rows.proofs.PlacedStepLemmas.{room_left, from_start, vertical_placed}
use Rattle.fax_rows.proofs.two_dimensional.steps.vertical_to.Goals as goal

pub push_change-end-requires-clause-room : goal.push_change-end-requires-clause-room
push_change-end-requires-clause-room c = omega (arith, room_left c.requires.inside)

pub returns-clause-step : goal.returns-clause-step
returns-clause-step c = λ d a1_is.
    vertical_placed c.requires.inside d _ a1_is
    (from_start c.args.at.position) c.requires.right (omega (arith, ints, c.requires.within))
    c.push_change-end.new.changes c.push_change-end.result c.args.b1 c.other.result c.push_change-end.ensures
    c.other.ensures
