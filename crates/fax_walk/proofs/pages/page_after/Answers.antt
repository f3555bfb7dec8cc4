use Rattle.std.proofs.Common.{Ok, refl, ap, ◌∙◌}
use Rattle.fax_walk.proofs.pages.page_after.Goals as goal

pub returns-in-Err-clause-err : goal.returns-in-Err-clause-err
returns-in-Err-clause-err c = rw ((rw c.in-Err.is at c.after.ensures) 0) refl

pub returns-in-Ok-None-clause-err : goal.returns-in-Ok-None-clause-err
returns-in-Ok-None-clause-err c =
    let answers = rw (c.in-Ok-None.is ∙ ap Ok c.in-Ok-None.field-0-is) at c.after.ensures in
    rw (answers.0) refl
