use Rattle.std.proofs.Common.{sym}
use Rattle.fax_walk.proofs.OpenPageLemmas.{upcoming_there, refused_strip}
use Rattle.fax_walk.proofs.open_page.open.Goals as goal

pub returns-in-Err-clause-refused : goal.returns-in-Err-clause-refused
returns-in-Err-clause-refused c =
    let there = rw (sym c.upcoming.view_is) at c.requires.there in
    let outside = c.in-Err.ensures.outside in
    let d = c.upcoming.inside in
    rw (← c.upcoming.view_is, c.of_file.ensures, c.in-Err.ensures.fault)
    (refused_strip (record { page = d.page; chain = d.chain; directory = d.strips.directory; form = d.form })
    c.args.first c.upcoming.invariant.its
    c.upcoming.invariant.limits there outside)

pub returns-in-Err-clause-there : goal.returns-in-Err-clause-there
returns-in-Err-clause-there c = rw (← c.upcoming.view_is) (upcoming_there _ _ _ _ c.upcoming.invariant.its)

pub returns-in_err-strip-clause-there : goal.returns-in_err-strip-clause-there
returns-in_err-strip-clause-there c = rw (← c.upcoming.view_is) (upcoming_there _ _ _ _ c.upcoming.invariant.its)

pub returns-in_err-exchanged-clause-there : goal.returns-in_err-exchanged-clause-there
returns-in_err-exchanged-clause-there c = rw (← c.upcoming.view_is) (upcoming_there _ _ _ _ c.upcoming.invariant.its)

pub returns-clause-there : goal.returns-clause-there
returns-clause-there c = rw (← c.upcoming.view_is) (upcoming_there _ _ _ _ c.upcoming.invariant.its)
