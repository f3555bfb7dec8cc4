use Rattle.std.proofs.Common.{arith}
use Rattle.fax_rows.proofs.LongestRunLemmas.{rest_is, skip_bounds}
use Rattle.fax_rows.proofs.longest_runs.LongestRuns.next_run.Goals as goal

pub invariant_of-self : goal.invariant_of-self
invariant_of-self c = rw (rest_is c.self.inside.changes.now 1)
    (skip_bounds c.self.inside.changes.now 1 (omega arith) c.self.invariant)
