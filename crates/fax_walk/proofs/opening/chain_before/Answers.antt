use Rattle.std.proofs.Common.{◌≤◌, Ok, ap, ◌∙◌, arith}
use Rattle.fax_walk.proofs.EndingLemmas.{goes_on, no_header, none_before, fault_before_page}
use Rattle.fax_walk.proofs.opening.chain_before.Goals as goal

pub returns-in-Err-clause-err : goal.returns-in-Err-clause-err
returns-in-Err-clause-err c r = rw c.of_file.ensures (no_header _ _ _ c.in-Err.ensures.fault)

pub returns-in-Ok-None-clause-err : goal.returns-in-Ok-None-clause-err
returns-in-Ok-None-clause-err c r =
    none_before _ _ _ _ c.loop-number.invariant c.next.ensures.answer _
    (c.in-Ok-None.is ∙ ap Ok c.in-Ok-None.field-0-is) c.loop-number-test.true

pub returns-in-Err-next-clause-err : goal.returns-in-Err-next-clause-err
returns-in-Err-next-clause-err c r =
    let past : c.loop-number.number ≤ c.args.page = omega (arith, c.loop-number-test.true) in
    rw c.of_file-in-Err-next.ensures
    (fault_before_page _ _ _ _ c.loop-number.invariant c.next.ensures.answer _ _
    c.in-Err-next.is past)

pub loop-number-preserved : goal.loop-number-preserved
loop-number-preserved c =
    goes_on _ _ _ _ _ c.in-Ok-Some.field-0-0 c.loop-number.invariant c.next.ensures.answer
    (c.in-Ok-Some.is ∙ ap Ok c.in-Ok-Some.field-0-is) c.next.ensures.counted
