use Rattle.std.proofs.Common.{◌∙◌, inl, inr}
use Rattle.fax_tool.proofs.PrintLemmas.{next_of_cursor, next_stopped, next_unmade}
use Rattle.fax_tool.proofs.commands.print.give_next.Goals as goal

pub returns-clause-err : goal.returns-clause-err
returns-clause-err g c =
    let line = next_of_cursor (g.L.Lines.tail c.args.lines.now) (g.L.Lines.origin c.args.lines.now)
    (g.L.Lines.yielded c.args.lines.now) c.cursor.result c.as_bytes-2.result.now c.cursor.ensures
    (c.as_bytes-2.ensures.value ∙ c.deref-2.ensures.0 ∙ c.next_line-next.ensures) in
    next_stopped _ _ _ c.args.long _ _ _ c.write_all-2.result _ (inr line) c.write_all-2.ensures.err

pub returns-in-Ok-clause-err : goal.returns-in-Ok-clause-err
returns-in-Ok-clause-err g c =
    next_stopped _ _ _ c.args.long _ _ _ c.write_all.result c.as_bytes.result.now
    (inl (rw (c.if-long.true, c.as_bytes.ensures.value) c.in-Ok.ensures)) c.write_all.ensures.err

pub returns-in-Err-clause-err : goal.returns-in-Err-clause-err
returns-in-Err-clause-err g c =
    let line = next_of_cursor (g.L.Lines.tail c.args.lines.now) (g.L.Lines.origin c.args.lines.now)
    (g.L.Lines.yielded c.args.lines.now) c.cursor.result c.deref.result.now c.cursor.ensures
    (c.deref.ensures.0 ∙ c.next_line-next.ensures) in
    next_unmade _ _ _ c.args.long _ _ _ c.stop_for_memory.result c.deref.result.now line c.stop_for_memory.ensures
