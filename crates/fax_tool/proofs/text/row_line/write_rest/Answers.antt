use Rattle.std.proofs.Common.{length, ap, ◌∙◌, take, arith}
use Rattle.fax_tool.proofs.RunTextLemmas.{next_run}
use Rattle.fax_tool.proofs.NumberTextLemmas.{length_short}
use Rattle.fax_tool.proofs.text.row_line.write_rest.Goals as goal

pub loop-run-preserved : goal.loop-run-preserved
loop-run-preserved c =
    let next = c.in-Some.ensures in
    record {
      text = next_run (take c.loop-run.end c.loop-run.bytes) _ c.loop-run.runs c.next_run.new.self c.in-Some.run'
          next.first
          c.write_number-end.ensures.written ∙ c.loop-run.invariant.text;
      room = omega (
        arith,
        ap length next.first,
        length_short c.in-Some.run' next.short,
        c.write_number-end.ensures.end,
        c.loop-run.invariant.room,
      );
    }
