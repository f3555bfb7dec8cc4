use Rattle.std.proofs.Common.{arith}
use Rattle.std.proofs.lemmas.Bool.{ltb-true}
use Rattle.fax_rows.proofs.OverWhiteLemmas.{two_runs_read}
use Rattle.fax_rows.proofs.PlacedReadLemmas.{more_room, put_on}
use Rattle.fax_rows.proofs.PlacedStepLemmas.{read_put, room_left}
use Rattle.fax_rows.proofs.two_dimensional.over_white.past_two_runs.Goals as goal

pub push_change-between-requires-clause-room : goal.push_change-between-requires-clause-room
push_change-between-requires-clause-room g c = omega (arith, room_left c.requires.inside)

pub push_change-end-requires-clause-room : goal.push_change-end-requires-clause-room
push_change-end-requires-clause-room g c =
    omega (
      arith,
      more_room (put_on (read_put c.requires.inside) c.push_change-between.ensures (omega (arith, c.requires.within))),
    )

pub returns-clause-read : goal.returns-clause-read
returns-clause-read g c b rest read =
    two_runs_read c.args.runs c.requires.white c.requires.inside c.requires.pels (λ asked. grind (arith, ltb-true))
    c.push_change-between.ensures c.push_change-end.ensures read
