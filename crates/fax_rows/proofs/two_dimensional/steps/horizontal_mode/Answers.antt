use Rattle.std.proofs.Common.{arith}
use Rattle.fax_rows.proofs.PlacedReadLemmas.{more_room, put_on}
use Rattle.fax_rows.proofs.PlacedB1Lemmas.{same_start}
use Rattle.fax_rows.proofs.PlacedStepLemmas.{read_put, room_left, pair_placed, horizontal_placed, horizontal_so_far}
use Rattle.fax_rows.proofs.two_dimensional.steps.horizontal_mode.Goals as goal

pub toggle_change_after-between-requires-clause-room : goal.toggle_change_after-between-requires-clause-room
toggle_change_after-between-requires-clause-room c = omega (arith, room_left c.requires.inside)

pub toggle_change_after-end-requires-clause-room : goal.toggle_change_after-end-requires-clause-room
toggle_change_after-end-requires-clause-room c =
    omega (
      arith,
      more_room (put_on (read_put c.requires.inside) c.toggle_change_after-between.ensures (omega (
        arith,
        c.requires.within,
      ))),
    )

pub returns-clause-step : goal.returns-clause-step
returns-clause-step c = λ b middle rest run another.
    let turns = rw c.first_pel.ensures at c.toggle_change_after-between.ensures in
    let again = rw c.first_pel.ensures at c.toggle_change_after-end.ensures in
    rw c.first_pel.ensures
    (horizontal_placed c.requires.inside c.args.first c.args.second c.b1_after.result run another
    c.requires.within turns again)

pub returns-clause-so_far : goal.returns-clause-so_far
returns-clause-so_far c =
    let from = c.first_pel.ensures in
    let turns = rw from at c.toggle_change_after-between.ensures in
    let again = rw from at c.toggle_change_after-end.ensures in
    rw from
    (horizontal_so_far c.requires.inside c.args.first c.args.second c.requires.within turns again
    (λ h. rw (← from)
    (c.b1_after.ensures (omega (arith, from)) c.args.at.position.colour
    (same_start c.args.reference c.args.at.position.a0 c.args.at.position.colour c.args.at.b1 _
    (c.requires.inside.so_far.b1 c.requires.inside.unfinished)
    (omega (arith, from))))))

pub returns-clause-elements : goal.returns-clause-elements
returns-clause-elements c =
    let turns = rw c.first_pel.ensures at c.toggle_change_after-between.ensures in
    let again = rw c.first_pel.ensures at c.toggle_change_after-end.ensures in
    rw c.first_pel.ensures
    (pair_placed c.requires.inside c.args.first c.args.second c.b1_after.result c.requires.within turns again)
