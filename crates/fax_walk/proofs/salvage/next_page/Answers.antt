use Rattle.std.proofs.Common.{Ok, ap, ◌∙◌}
use Rattle.fax_walk.proofs.SalvageFileLemmas.{entered_next, ends_next, broken_next, refused_next}
use Rattle.fax_walk.proofs.salvage.next_page.Goals as goal

pub returns-in_ok-page-in-Ok : goal.returns-in_ok-page-in-Ok
returns-in_ok-page-in-Ok c =
    let origin = rw (c.in-Ok.ensures.directory, c.yielded-number.ensures) at c.in_ok-page-in-Ok.ensures in
    entered_next c.args.chain.now _ _ c.in-Ok-Some.directory c.in-Ok.form _ c.requires
    (rw c.fork-chain.ensures at c.next.ensures.answer) (c.in-Ok-Some.is ∙ ap Ok c.in-Ok-Some.field-0-is)
    (rw c.fork-chain.ensures at c.next.ensures.counted) c.in-Ok.ensures.form c.in-Ok.ensures.limits origin

pub returns-in-Ok-None : goal.returns-in-Ok-None
returns-in-Ok-None c =
    ends_next c.args.chain.now c.next.result c.requires
    (rw c.fork-chain.ensures at c.next.ensures.answer) (c.in-Ok-None.is ∙ ap Ok c.in-Ok-None.field-0-is)

pub returns-in-Err : goal.returns-in-Err
returns-in-Err c =
    broken_next c.args.chain.now c.next.result _ c.requires (rw c.fork-chain.ensures at c.next.ensures.answer)
    c.in-Err.is

pub returns-in-Err-page_and_strips : goal.returns-in-Err-page_and_strips
returns-in-Err-page_and_strips c =
    refused_next c.args.chain.now _ _ c.in-Ok-Some.directory _ c.requires
    (rw c.fork-chain.ensures at c.next.ensures.answer) (c.in-Ok-Some.is ∙ ap Ok c.in-Ok-Some.field-0-is)
    (rw c.fork-chain.ensures at c.next.ensures.counted) c.in-Err-page_and_strips.ensures.fault
