use Rattle.std.proofs.Common.{◌∙◌, rules}
use Rattle.clap.proofs.TakesLemmas.{passed_up}
use Rattle.fax_tool.proofs.PrintLemmas.{one_more, part_sent, stopped_for_memory, stopped_for_write}
use Rattle.fax_tool.proofs.commands.print.print_lines.Goals as goal

pub returns-in_err-flush-clause-err : goal.returns-in_err-flush-clause-err
returns-in_err-flush-clause-err g c =
    passed_up c.from_residual.result _ _ c.from_residual.ensures.1
    (stopped_for_write c.loop-remaining.invariant.one c.loop-remaining.invariant.some (g.L.Lines.origin
    c.args.lines.now) _ _ _
    c.in_err-flush.ensures.err)

pub returns-in_err-flush_if_full-clause-err : goal.returns-in_err-flush_if_full-clause-err
returns-in_err-flush_if_full-clause-err g c =
    passed_up c.from_residual-in_err-flush_if_full.result _ _ c.from_residual-in_err-flush_if_full.ensures.1
    (stopped_for_write c.loop-remaining.invariant.one c.loop-remaining.invariant.some (g.L.Lines.origin
    c.args.lines.now) _ _ _
    c.in_err-flush_if_full.ensures.err)

pub loop-remaining-preserved : goal.loop-remaining-preserved
loop-remaining-preserved g c =
    let put = rw c.in-Ok-None.field-0-is at c.in-Ok-None.ensures.put in
    let sent = part_sent c.loop-remaining.invariant.one c.loop-remaining.invariant.some c.in_ok-flush_if_full.ensures.ok
    in
    record {
      one = c.loop-remaining.invariant.one;
      some = one_more c.loop-remaining.invariant.one sent (g.L.Lines.tail c.put_next.new.self)
          (g.L.Lines.yielded c.put_next.new.self) _ put.0 _ c.in-Ok-None.ensures.tail put.1 put.2
          (search rules) c.after_one-remaining.ensures put.3;
      origin = c.in-Ok-None.ensures.origin ∙ c.loop-remaining.invariant.origin;
      counts = c.in_ok-flush_if_full.ensures.counts;
    }

pub returns-in_err-flush-in-Ok-Some-clause-err : goal.returns-in_err-flush-in-Ok-Some-clause-err
returns-in_err-flush-in-Ok-Some-clause-err g c =
    let put = rw c.in-Ok-Some.field-0-is at c.in-Ok-Some.ensures.put in
    let sent = part_sent c.loop-remaining.invariant.one c.loop-remaining.invariant.some c.in_ok-flush_if_full.ensures.ok
    in
    passed_up c.from_residual-in_err-flush-in-Ok-Some.result _ _
    c.from_residual-in_err-flush-in-Ok-Some.ensures.1
    (stopped_for_write c.loop-remaining.invariant.one sent (g.L.Lines.origin c.args.lines.now) _ _ _
    (rw put.2 at c.in_err-flush-in-Ok-Some.ensures.err))

pub returns-in-Err-clause-err : goal.returns-in-Err-clause-err
returns-in-Err-clause-err g c =
    let sent = part_sent c.loop-remaining.invariant.one c.loop-remaining.invariant.some c.in_ok-flush_if_full.ensures.ok
    in
    stopped_for_memory c.loop-remaining.invariant.one sent (g.L.Lines.origin c.args.lines.now)
    (g.L.Lines.origin c.loop-remaining.lines) c.cursor-cursor.result _ c.as_bytes.result.now c.deref.result.now _ _
    c.loop-remaining.invariant.origin c.cursor-cursor.ensures (c.as_bytes.ensures ∙ c.in-Err.ensures.put) (search rules)
    c.stop_for_memory.ensures
