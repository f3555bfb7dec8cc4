use Rattle.std.proofs.Common.{◌≡◌, ℕ, ◌-◌, ◌≤◌, ◌<◌, length, get_or}
use Rattle.fax_rows.proofs.simd.first_other_byte.Given as goal

abbrev pub invariant-loop-at : goal.invariant-loop-at
invariant-loop-at l = record {
  right : l.from ≤ l.at;
  within : l.at ≤ length l.bytes;
  same : (k : ℕ) → l.from ≤ k → k < l.at → get_or l.bytes k 0 ≡ l.plain;
}

abbrev pub decreases-loop-at : goal.decreases-loop-at
decreases-loop-at l = length l.bytes - l.at
