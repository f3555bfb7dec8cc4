use Rattle.std.proofs.Common.{◌≡◌, ℕ, ◌<◌, ◌≤◌, get_or}
use Rattle.fax_rows.proofs.packed.fill.Given as goal

abbrev pub invariant-loop-at : goal.invariant-loop-at
invariant-loop-at l = record {
  before : (i : ℕ) → i < l.from → get_or l.out i 0 ≡ get_or l.initial.out i 0;
  filled : (i : ℕ) → l.from ≤ i → i < l.at → get_or l.out i 0 ≡ l.byte;
}
