use Rattle.std.proofs.Common.{refl}
use Rattle.std.proofs.lemmas.Result.{err_from_is_err_and}
use Rattle.fax_walk.proofs.OpenPageLemmas.{refused_after}
use Rattle.fax_walk.proofs.open_page.open_after.Goals as goal

pub returns-in_err-upcoming-clause-refused : goal.returns-in_err-upcoming-clause-refused
returns-in_err-upcoming-clause-refused c =
    let p = err_from_is_err_and c.from_residual.result c.from_residual.ensures.1 in
    let answers = rw c.fork.ensures at c.in_err-upcoming.ensures in
    rw (p.1, p.2, answers 0) refl

pub returns-in-Some-clause-refused : goal.returns-in-Some-clause-refused
returns-in-Some-clause-refused c =
    let answers = rw (c.in-Some.is, c.fork.ensures) at c.in_ok-upcoming.ensures in
    refused_after _ c.in-Some.upcoming _ c.open.result answers.0 answers.1 c.open.ensures.refused

pub returns-in-None-clause-refused : goal.returns-in-None-clause-refused
returns-in-None-clause-refused c =
    let answers = rw (c.in-None.is, c.fork.ensures) at c.in_ok-upcoming.ensures in
    rw (answers.0) refl
