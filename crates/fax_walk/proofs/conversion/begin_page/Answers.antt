use Rattle.std.proofs.Common.{arith}
use Rattle.fax_walk.proofs.conversion.begin_page.Goals as goal

pub begin-requires-clause-upcoming : goal.begin-requires-clause-upcoming
begin-requires-clause-upcoming c =
    let (part, is) = c.requires.upcoming in
    let upcoming = is.upcoming in
    let written = upcoming.put.none (omega (arith, upcoming.count, c.if-last-gt0.false)) in
    (part.at, record { options_are = upcoming.options_are; written = written })
