use Rattle.std.proofs.Common.{codes, refl, []}
use Rattle.fax_tool.proofs.PrintLemmas.{last_stopped, next_is_last}
use Rattle.fax_tool.proofs.commands.print.give_last_line.Goals as goal

pub returns-in-Some-EndOfPages-clause-err : goal.returns-in-Some-EndOfPages-clause-err
returns-in-Some-EndOfPages-clause-err g c =
    last_stopped _ _ _ c.args.last.long _ _ _ c.args.last.ending
    c.write_all.result (codes "end\n") (let field = rw c.in-Some-EndOfPages.is at c.in-Some-EndOfPages.field-0-is in rw
    (c.in-Some-EndOfPages.is, field) refl) c.write_all.ensures.err

pub returns-in-Some-Outside-clause-err : goal.returns-in-Some-Outside-clause-err
returns-in-Some-Outside-clause-err g c =
    last_stopped _ _ _ c.args.last.long _ _ _ c.args.last.ending
    c.write_all-in-Some-Outside.result [] (let field = rw c.in-Some-Outside.is at c.in-Some-Outside.field-0-is in rw
    (c.in-Some-Outside.is, field) refl)
    c.write_all-in-Some-Outside.ensures.err

pub returns-in-Some-Fault-clause-err : goal.returns-in-Some-Fault-clause-err
returns-in-Some-Fault-clause-err g c =
    next_is_last _ _ _ c.args.last.long _ _ _ c.args.last.ending
    c.give_next.result (let field = rw c.in-Some-Fault.is at c.in-Some-Fault.field-0-is in
    rw (c.in-Some-Fault.is, field)
    (λ line is. is)) c.give_next.ensures.err

pub returns-in-None-clause-err : goal.returns-in-None-clause-err
returns-in-None-clause-err g c =
    next_is_last _ _ _ c.args.last.long _ _ _ c.args.last.ending
    c.give_next-in-None.result (rw c.in-None.is (λ line is. is)) c.give_next-in-None.ensures.err
