use Rattle.std.proofs.Common.{length, ap, arith}
use Rattle.std.proofs.lemmas.Grind.{common_steps}
use Rattle.fax_rows.proofs.LongestRunLemmas.{length-runs_between, skip_bounds, skip_runs}
use Rattle.fax_rows.proofs.longest_runs.LongestRuns.skip.Goals as goal

pub offset_bounds-self-inside-count : goal.offset_bounds-self-inside-count
offset_bounds-self-inside-count c =
    record {
      fits = omega (
        arith,
        ap length c.self.view_is,
        length-runs_between c.self.inside.changes.now,
        c.requires,
        c.self.told,
      );
    }

pub slice_bounds-self-count : goal.slice_bounds-self-count
slice_bounds-self-count c = omega (
  arith,
  ap length c.self.view_is,
  length-runs_between c.self.inside.changes.now,
  c.requires,
)

pub slice_bounds-self-start : goal.slice_bounds-self-start
slice_bounds-self-start c = omega (
  arith,
  ap length c.self.view_is,
  length-runs_between c.self.inside.changes.now,
  c.requires,
)

pub invariant_of-self : goal.invariant_of-self
invariant_of-self c = grind (arith, common_steps, length-runs_between, skip_bounds)

pub returns : goal.returns
returns c = grind (arith, common_steps, length-runs_between, skip_runs)
