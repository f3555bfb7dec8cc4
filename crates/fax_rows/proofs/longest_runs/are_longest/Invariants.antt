use Rattle.std.proofs.Common.{◌≡◌, ℕ, ◌+◌, ◌<◌, take, get_or}
use Rattle.std.specs.Prelude.{sum}
use Rattle.fax_rows.proofs.longest_runs.are_longest.Given as goal

abbrev pub invariant-loop-i : goal.invariant-loop-i
invariant-loop-i l = record {
  whole : sum (take l.i l.runs) + l.remaining ≡ l.width;
  some : (k : ℕ) → 0 < k → k < l.i → 0 < get_or l.runs k 0;
}
