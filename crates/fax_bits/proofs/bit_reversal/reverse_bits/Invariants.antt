use Rattle.std.proofs.Common.{◌-◌, ◌≤◌}
use Rattle.std.specs.Int.{reverse_bits, w8}
use Rattle.fax_bits.proofs.LaneLemmas.{IsTurnedUpTo}
use Rattle.fax_bits.proofs.bit_reversal.reverse_bits.Given as goal

abbrev pub invariant-loop-at : goal.invariant-loop-at
invariant-loop-at l = record {
  within : l.at ≤ l.len;
  turned : IsTurnedUpTo (reverse_bits w8) l.initial.bytes l.bytes l.at;
}

abbrev pub decreases-loop-at : goal.decreases-loop-at
decreases-loop-at l = l.len - l.at

abbrev pub invariant-loop-i : goal.invariant-loop-i
invariant-loop-i l = IsTurnedUpTo (reverse_bits w8) l.fn.bytes l.bytes l.i
