use Rattle.std.proofs.Common.{length, ap, sym, ◌∙◌}
use Rattle.fax_rows.proofs.LongestRunLemmas.{length-runs_between}
use Rattle.fax_rows.proofs.longest_runs.LongestRuns.len.Goals as goal

pub returns-clause-count : goal.returns-clause-count
returns-clause-count c = sym (length-runs_between c.self.inside.changes.now) ∙ ap length c.self.view_is
