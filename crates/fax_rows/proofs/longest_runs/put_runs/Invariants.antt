use Rattle.std.proofs.Common.{take}
use Rattle.fax_rows.specs.code.Put.{AreChangesPut}
use Rattle.fax_rows.proofs.GivenRunLemmas.{ArePutRuns}
use Rattle.fax_rows.proofs.longest_runs.put_runs.Given as goal

abbrev pub invariant-loop-n : goal.invariant-loop-n
invariant-loop-n l = record {
  runs : ArePutRuns (take l.n-index l.runs) l.total (take l.end l.changes);
  put : AreChangesPut l.width l.changes l.end l.total;
}
