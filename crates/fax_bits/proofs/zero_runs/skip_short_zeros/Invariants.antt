use Rattle.std.proofs.Common.{◌≤◌, ◌-◌, length}
use Rattle.fax_bits.proofs.ZeroRunLemmas.{HasNone}
use Rattle.fax_bits.proofs.zero_runs.skip_short_zeros.Given as goal

abbrev pub invariant-loop-at : goal.invariant-loop-at
invariant-loop-at l = record {
  after : l.from ≤ l.at;
  within : l.at ≤ length l.bytes;
  none : HasNone l.order l.bytes l.from l.at;
}

abbrev pub decreases-loop-at : goal.decreases-loop-at
decreases-loop-at l = length l.bytes - l.at
