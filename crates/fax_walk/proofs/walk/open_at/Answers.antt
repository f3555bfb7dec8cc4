use Rattle.std.proofs.Common.{arith, ◌<◌, ◌≤◌, inl, sym}
use Rattle.std.proofs.lemmas.Result.{err_from_is_err_and}
use Rattle.fax_walk.specs.code.Opening.{UpcomingPage}
use Rattle.fax_walk.proofs.EnterLemmas.{enters_next, enters_on, no_page, opened_next, opened_on, refused_next}
use Rattle.fax_walk.proofs.EnterLemmas.{refused_on}
use Rattle.fax_walk.proofs.walk.open_at.Goals as goal

pub returns-in_err-upcoming-clause-refused : goal.returns-in_err-upcoming-clause-refused
returns-in_err-upcoming-clause-refused c = grind (arith, err_from_is_err_and, no_page)

pub returns-in_default-clause-refused : goal.returns-in_default-clause-refused
returns-in_default-clause-refused c =
    no_page c.args.file.now c.args.cursor _ (inl (rw c.in_default.is at c.in_ok-upcoming.ensures.ok))

pub returns-then-cursor-upcoming-clause-opened : goal.returns-then-cursor-upcoming-clause-opened
returns-then-cursor-upcoming-clause-opened c = grind (arith, opened_on)

pub returns-then-cursor-upcoming-clause-refused : goal.returns-then-cursor-upcoming-clause-refused
returns-then-cursor-upcoming-clause-refused c =
    let named = rw c.in-Some.is at c.in_ok-upcoming.ensures.ok in
    let below : c.args.cursor.row < c.in-Some.upcoming.form.rows = rw (← c.upcoming.view_is) c.if-cursor-upcoming.true
    in
    refused_on c.args.file.now c.args.cursor c.in-Some.upcoming named below c.open.result c.open.ensures.refused

pub returns-else-cursor-upcoming-clause-opened : goal.returns-else-cursor-upcoming-clause-opened
returns-else-cursor-upcoming-clause-opened c = grind (arith, opened_next)

pub returns-else-cursor-upcoming-clause-refused : goal.returns-else-cursor-upcoming-clause-refused
returns-else-cursor-upcoming-clause-refused c =
    let named = rw (sym c.upcoming.view_is) at (rw c.in-Some.is at c.in_ok-upcoming.ensures.ok) in
    let d = c.upcoming.inside in
    let upcoming : UpcomingPage = record {
      page = d.page;
      chain = d.chain;
      directory = d.strips.directory;
      form = d.form;
    } in
    refused_next c.args.file.now c.args.cursor upcoming named c.upcoming.invariant.its c.if-cursor-upcoming.false
    c.open_after.result
    c.open_after.ensures.refused

pub returns-in_err-upcoming-clause-there : goal.returns-in_err-upcoming-clause-there
returns-in_err-upcoming-clause-there c = grind (arith, err_from_is_err_and)

pub returns-then-cursor-upcoming-clause-there : goal.returns-then-cursor-upcoming-clause-there
returns-then-cursor-upcoming-clause-there c = λ _.
    let named = rw c.in-Some.is at c.in_ok-upcoming.ensures.ok in
    let below : c.args.cursor.row < c.in-Some.upcoming.form.rows = rw (← c.upcoming.view_is) c.if-cursor-upcoming.true
    in
    enters_on c.args.file.now c.args.cursor c.in-Some.upcoming named below

pub returns-else-cursor-upcoming-clause-there : goal.returns-else-cursor-upcoming-clause-there
returns-else-cursor-upcoming-clause-there c = λ is.
    let named = rw (sym c.upcoming.view_is) at (rw c.in-Some.is at c.in_ok-upcoming.ensures.ok) in
    let d = c.upcoming.inside in
    let upcoming : UpcomingPage = record {
      page = d.page;
      chain = d.chain;
      directory = d.strips.directory;
      form = d.form;
    } in
    let past : upcoming.form.rows ≤ c.args.cursor.row = c.if-cursor-upcoming.false in
    enters_next c.args.file.now c.args.cursor upcoming named c.upcoming.invariant.its past (c.open_after.ensures.there
    is)
