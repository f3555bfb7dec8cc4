use Rattle.std.proofs.Common.{length, take, ap, ◌∙◌, arith}
use Rattle.fax_rows.proofs.LongestRunLemmas.{lane_is, length-runs_between, rest_is, runs_in_lanes, runs_fit}
use Rattle.fax_rows.proofs.longest_runs.LongestRuns.eight_ahead.Goals as goal

pub returns-then-self-le8 : goal.returns-then-self-le8
returns-then-self-le8 c = omega (
  arith,
  ap length c.self.view_is,
  length-runs_between c.self.inside.changes.now,
  c.self.invariant.some,
)

pub overflow_cast-result : goal.overflow_cast-result
overflow_cast-result c =
    rw (rest_is c.self.inside.changes.now 1)
    (runs_fit _ _ (λ a b right remaining. record { fits = omega (arith, lane_is a b right remaining) }) 8
    c.self.inside.changes.now
    (omega arith)
    c.self.invariant)

pub returns : goal.returns
returns c =
    rw (rest_is c.self.inside.changes.now 1) (
      runs_in_lanes _ _ lane_is 8 c.self.inside.changes.now (omega arith) c.self.invariant ∙ ap (take 8) c.self.view_is,
      omega (arith, ap length c.self.view_is, length-runs_between c.self.inside.changes.now),
    )
