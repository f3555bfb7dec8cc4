use Rattle.std.proofs.Common.{◌≤◌, ◌-◌}
use Rattle.fax_bits.proofs.ZeroLemmas.{IsZeroBelow}
use Rattle.fax_bits.proofs.source.BitSource.zeros_bytewise.Given as goal

abbrev pub invariant-loop-zeros : goal.invariant-loop-zeros
invariant-loop-zeros l = record {
  within : l.zeros ≤ l.remaining;
  below : IsZeroBelow l.self.remaining l.zeros;
}

abbrev pub decreases-loop-zeros : goal.decreases-loop-zeros
decreases-loop-zeros l = l.remaining - l.zeros
