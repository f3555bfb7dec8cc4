use Rattle.std.proofs.Common.{◌≡◌, ◌≢◌, ℕ, ◌+◌, ◌-◌, ◌<◌, ◌≤◌}
use Rattle.fax_files.specs.code.Chain.{offset}
use Rattle.fax_files.proofs.chain.cycle_from.Given as goal

abbrev pub invariant-loop-next_at : goal.invariant-loop-next_at
invariant-loop-next_at l = record {
  next_at : l.next_at ≡ offset l.tiff (l.start + l.len);
  some : 0 < l.len;
  short : l.len ≤ l.start;
  first : (i : ℕ) → 0 < i → i < l.len → offset l.tiff (l.start + i) ≢ offset l.tiff l.start;
}

abbrev pub decreases-loop-next_at : goal.decreases-loop-next_at
decreases-loop-next_at l = l.start - l.len
