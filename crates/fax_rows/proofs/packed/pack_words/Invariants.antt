use Rattle.std.proofs.Common.{◌≡◌, ℕ, ◌*◌, ◌-◌, ◌<◌, ◌≤◌, length, get_or}
use Rattle.fax_rows.specs.code.PackedWord.{IsPackedByte}
use Rattle.fax_rows.specs.code.ChangingElements.{element_pels}
use Rattle.fax_rows.specs.code.ChangeLists.{HasPassed}
use Rattle.fax_rows.proofs.packed.pack_words.Given as goal

abbrev pub invariant-loop-k : goal.invariant-loop-k
invariant-loop-k l = record {
  within : l.k ≤ l.words;
  done : (i : ℕ) → i < 8 * l.k → IsPackedByte (element_pels l.row) (8 * i) (get_or l.out i 0);
  so_far : HasPassed l.row.changes.now l.row.end (64 * l.k) l.passed;
  len : length l.out ≡ length l.initial.out;
}

abbrev pub decreases-loop-k : goal.decreases-loop-k
decreases-loop-k l = l.words - l.k
