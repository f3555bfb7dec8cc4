use Rattle.std.proofs.Common.{inl, sym}
use Rattle.std.proofs.lemmas.Result.{err_from_is_err_and}
use Rattle.fax_walk.proofs.EndingLemmas.{named_outside, named_page, named_refused}
use Rattle.fax_walk.proofs.opening.UnopenedPage.at.Goals as goal

pub returns-in_err-chain-clause-err : goal.returns-in_err-chain-clause-err
returns-in_err-chain-clause-err c =
    let p = err_from_is_err_and c.from_residual.result c.from_residual.ensures.1 in
    rw (p.1, p.2) (inl (c.in_err-chain.ensures.err c.args.cursor.row))

pub returns-in_err-page-clause-err : goal.returns-in_err-page-clause-err
returns-in_err-page-clause-err c =
    let p = err_from_is_err_and c.from_residual-in_err-page.result c.from_residual-in_err-page.ensures.1 in
    rw (p.1, p.2)
    (named_refused c.args.file.now c.args.cursor c.in_ok-chain.chain _ c.in_ok-chain.ensures.ok c.in_err-page.ensures)

pub returns-then-cursor-page-clause-err : goal.returns-then-cursor-page-clause-err
returns-then-cursor-page-clause-err c =
    let answers = rw (sym c.page.view_is) at (rw c.in-Some.is at c.in_ok-page.ensures) in
    named_outside c.args.file.now c.args.cursor c.in_ok-chain.chain _ c.in_ok-chain.ensures.ok answers
    c.page.invariant.its
    c.if-cursor-page.true

pub returns-clause-ok : goal.returns-clause-ok
returns-clause-ok c =
    let answers = rw (sym c.page.view_is) at (rw c.in-Some.is at c.in_ok-page.ensures) in
    let page = c.page.inside in
    rw (← c.page.view_is)
    (named_page c.args.file.now c.args.cursor c.in_ok-chain.chain
    (record { page = page.page; chain = page.chain; directory = page.strips.directory; form = page.form })
    c.in_ok-chain.ensures.ok answers
    c.page.invariant.its c.if-cursor-page.false)
