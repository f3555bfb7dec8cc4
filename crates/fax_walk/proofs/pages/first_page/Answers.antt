use Rattle.std.proofs.Common.{inl, arith}
use Rattle.std.proofs.lemmas.Result.{err_from_is_err_and}
use Rattle.fax_walk.proofs.PagesLemmas.{begins_here, begins_after, ends_after, no_forms}
use Rattle.fax_walk.proofs.pages.first_page.Goals as goal

pub returns-in_err-page-clause-err : goal.returns-in_err-page-clause-err
returns-in_err-page-clause-err c =
    let p = err_from_is_err_and c.from_residual.result c.from_residual.ensures.1 in
    rw (p.1, p.2) (no_forms _ _ _ c.in_err-page.ensures.err)

pub returns-in_default-clause-err : goal.returns-in_default-clause-err
returns-in_default-clause-err c = no_forms _ _ _ (inl (rw c.in_default.is at c.in_ok-page.ensures.ok))

pub returns-then-cursor-eq0-clause-ok : goal.returns-then-cursor-eq0-clause-ok
returns-then-cursor-eq0-clause-ok c =
    begins_here c.args.file.now c.args.cursor c.in-Some.page (rw c.in-Some.is at c.in_ok-page.ensures.ok)
    c.if-cursor-eq0.true

pub returns-else-cursor-eq0-clause-ok : goal.returns-else-cursor-eq0-clause-ok
returns-else-cursor-eq0-clause-ok c = grind (arith, begins_after)

pub returns-else-cursor-eq0-clause-err : goal.returns-else-cursor-eq0-clause-err
returns-else-cursor-eq0-clause-err c = grind (arith, ends_after)
