use Rattle.clap.proofs.TakesLemmas.{passed_up}
use Rattle.fax_tool.proofs.SalvageLineLemmas.{one_more, part_sent, stopped_for_memory, stopped_for_write}
use Rattle.fax_tool.proofs.SalvageLineLemmas.{stopped_if_refused}
use Rattle.fax_tool.proofs.commands.salvage_lines.print_remains.Goals as goal

pub returns-in_err-flush_if_full-clause-err : goal.returns-in_err-flush_if_full-clause-err
returns-in_err-flush_if_full-clause-err g c =
    passed_up c.from_residual.result _ _ c.from_residual.ensures.1
    (stopped_for_write c.loop-text.invariant.one c.loop-text.invariant.some _ _ _
    c.in_err-flush_if_full.ensures.err)

pub loop-text-preserved : goal.loop-text-preserved
loop-text-preserved g c =
    let put = rw c.in-Ok-true.field-0-test at c.in-Ok-true.ensures.put in
    let sent = part_sent c.loop-text.invariant.one c.loop-text.invariant.some c.in_ok-flush_if_full.ensures.ok in
    record {
      one = c.loop-text.invariant.one;
      some = one_more c.loop-text.invariant.one sent (g.R.SalvageLines.are c.put_next.new.self)
          (g.R.SalvageLines.yielded c.put_next.new.self) put.0 put.1 _ c.in-Ok-true.ensures.same put.2 put.3 put.4
          put.5;
      counts = c.in_ok-flush_if_full.ensures.counts;
      well = λ is. c.loop-text.invariant.well (c.in-Ok-true.ensures.still_well is);
    }

pub returns-in-Ok-false-clause-err : goal.returns-in-Ok-false-clause-err
returns-in-Ok-false-clause-err g c =
    let put = rw c.in-Ok-false.field-0-test at c.in-Ok-false.ensures.put in
    let sent = part_sent c.loop-text.invariant.one c.loop-text.invariant.some c.in_ok-flush_if_full.ensures.ok in
    stopped_if_refused c.loop-text.invariant.one sent _ _ c.flush.result (rw put.3 at c.flush.ensures.err)

pub returns-in_err-flush-in-Err-clause-err : goal.returns-in_err-flush-in-Err-clause-err
returns-in_err-flush-in-Err-clause-err g c =
    let sent = part_sent c.loop-text.invariant.one c.loop-text.invariant.some c.in_ok-flush_if_full.ensures.ok in
    passed_up c.from_residual-in_err-flush-in-Err.result _ _
    c.from_residual-in_err-flush-in-Err.ensures.1
    (stopped_for_write c.loop-text.invariant.one sent _ _ _
    (rw c.in-Err.ensures.put at c.in_err-flush-in-Err.ensures.err))

pub returns-in-Err-clause-err : goal.returns-in-Err-clause-err
returns-in-Err-clause-err g c =
    let sent = part_sent c.loop-text.invariant.one c.loop-text.invariant.some c.in_ok-flush_if_full.ensures.ok in
    stopped_for_memory c.loop-text.invariant.one sent _ _ c.in_ok-flush-in-Err.ensures.worked
    (rw c.in-Err.ensures.put at c.in_ok-flush-in-Err.ensures.ok)
