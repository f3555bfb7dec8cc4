use Rattle.std.proofs.Common.{◌≡◌, ◌+◌, length, not, nat_eq}
use Rattle.fax_rows.specs.code.OverWhite.{placed_over_white}
use Rattle.fax_rows.specs.code.CodingState.{IsReadSoFar}
use Rattle.fax_rows.proofs.two_dimensional.over_white.read_over_white.Given as goal

abbrev pub invariant-loop-at : goal.invariant-loop-at
invariant-loop-at g l = record {
  read : IsReadSoFar (not (nat_eq g.row.CANONICAL 0)) l.reference l.changes (placed_over_white l.at)
      l.initial.source.remaining
      l.ahead.remaining;
  unchanged : l.source ≡ l.initial.source;
  same_end : l.ahead.place + length l.ahead.remaining ≡ l.initial.source.place + length l.initial.source.remaining;
}

abbrev pub decreases-loop-at : goal.decreases-loop-at
decreases-loop-at g l = length l.ahead.remaining
