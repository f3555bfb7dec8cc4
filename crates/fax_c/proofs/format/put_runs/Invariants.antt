use Rattle.std.proofs.Common.{length}
use Rattle.fax_c.proofs.FormatLemmas.{AreRunsPut}
use Rattle.fax_c.proofs.format.put_runs.Given as goal

abbrev pub invariant-loop-run : goal.invariant-loop-run
invariant-loop-run l = AreRunsPut l.initial.runs l.runs l.at l.to l.initial.out l.out

abbrev pub decreases-loop-run : goal.decreases-loop-run
decreases-loop-run l = length l.runs
