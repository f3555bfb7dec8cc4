use Rattle.fax_c.proofs.FormatLemmas.{one_put}
use Rattle.fax_c.proofs.format.put_runs.Goals as goal

pub loop-run-preserved : goal.loop-run-preserved
loop-run-preserved c =
    one_put c.args.runs.now c.loop-run.runs c.next_run.new.self c.args.at c.loop-run.to c.in-Some.run' c.args.out.now
    c.loop-run.out
    c.loop-run.invariant c.in-Some.ensures.first
