use Rattle.clap.proofs.TakesLemmas.{passed_up}
use Rattle.fax_tool.proofs.TextLemmas.{all_printed, stopped_at_last, stopped_at_lines}
use Rattle.fax_tool.proofs.commands.print.print_all.Goals as goal

pub returns-in_err-ending-clause-err : goal.returns-in_err-ending-clause-err
returns-in_err-ending-clause-err g c =
    passed_up c.from_residual.result _ _ c.from_residual.ensures.1
    (stopped_at_lines (g.L.Lines.tail c.args.lines.now) (g.L.Lines.origin c.args.lines.now) c.args.long c.args.max
    (g.W.Sink.written c.args.out.now) _ _ _ c.in_err-ending.ensures.err)

pub returns-in_err-give_last_line-clause-err : goal.returns-in_err-give_last_line-clause-err
returns-in_err-give_last_line-clause-err g c =
    passed_up c.from_residual-in_err-give_last_line.result _ _ c.from_residual-in_err-give_last_line.ensures.1
    (stopped_at_last c.lemma_one.ensures c.in_ok-ending.ensures.tail c.in_ok-ending.ensures.origin c.args.long
    c.in_ok-ending.ensures.ok _ _ _ c.in_err-give_last_line.ensures.err)

pub returns-clause-ok : goal.returns-clause-ok
returns-clause-ok g c =
    let last = c.in_ok-give_last_line.ensures.ok in
    rw c.end_line.ensures
    (all_printed c.lemma_one.ensures c.in_ok-ending.ensures.tail c.in_ok-ending.ensures.origin c.args.long
    c.in_ok-ending.ensures.ok _ _ last.0 last.1 last.2)
