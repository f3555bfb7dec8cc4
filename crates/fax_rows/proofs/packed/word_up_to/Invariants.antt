use Rattle.std.proofs.Common.{◌*◌, ◌-◌, ◌≤◌, get_or}
use Rattle.fax_rows.specs.code.PackedWord.{IsWordTo}
use Rattle.fax_rows.proofs.packed.word_up_to.Given as goal

abbrev pub invariant-loop-after : goal.invariant-loop-after
invariant-loop-after l = record {
  word : IsWordTo l.row (64 * l.k) l.word l.after;
  left_hand : get_or l.row.changes.now (l.after - 1) 0 ≤ l.to;
}

abbrev pub decreases-loop-after : goal.decreases-loop-after
decreases-loop-after l = l.row.end - l.after
