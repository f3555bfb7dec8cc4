use Rattle.std.proofs.Common.{◌≡◌, arith}
use Rattle.std.proofs.lemmas.Result.{err_from_is_err_and}
use Rattle.fax_walk.proofs.WalkLemmas.{ended_on, gone_on, not_entered}
use Rattle.fax_walk.proofs.walk.advance_page.Goals as goal
use Rattle.fax_walk.proofs.walk.advance_page.Goals.{in-Some+in_ok-next_row+else-branch, in_default}

pub returns-in_err-next_row : goal.returns-in_err-next_row
returns-in_err-next_row c =
    let p = err_from_is_err_and c.from_residual.result c.from_residual.ensures.1 in
    rw (p.1, p.2) (λ yielded cursor from.
    let goes = rw c.in-Some.is at (c.pages.invariant.goes_on yielded cursor from) in
    ended_on _ _ yielded cursor c.in-Some.open c.next_row.new.self _ goes.1 c.in_err-next_row.ensures.err)

pub returns-then-branch : goal.returns-then-branch
returns-then-branch c yielded cursor from =
    let goes = rw c.in-Some.is at (c.pages.invariant.goes_on yielded cursor from) in
    let gives = rw c.if-branch.true at c.in_ok-next_row.ensures.ok in
    gone_on c.bits_stand_by_index.ensures c.lines_are_read_in_one_way.ensures c.files_have_one_chain.ensures
    c.forms_are_whole.ensures c.args.file.now
    c.args.origin.now
    yielded cursor c.in-Some.open c.next_row.new.self goes.1 gives

pub returns-in_err-open_upcoming : goal.returns-in_err-open_upcoming
returns-in_err-open_upcoming c =
    let p = err_from_is_err_and c.from_residual-in_err-open_upcoming.result
    c.from_residual-in_err-open_upcoming.ensures.1 in
    let same : c.match-page.page ≡ c.pages.page = elim c.match-page.branch [
      | in-Some+in_ok-next_row+else-branch w ↦ grind arith
      | in_default w ↦ w.page-is
    ] in
    rw (p.1, p.2)
    (not_entered c.args.file.now c.args.origin.now c.args.page.now c.pages.page c.open_upcoming.new.page _
    c.pages.invariant.goes_on
    c.pages.invariant.there (rw same at c.in_err-open_upcoming.ensures))
