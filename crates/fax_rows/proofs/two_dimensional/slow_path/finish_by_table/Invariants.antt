use Rattle.std.proofs.Common.{◌≡◌, ◌+◌, length, not, nat_eq}
use Rattle.fax_rows.specs.code.CodingState.{IsReadSoFar}
use Rattle.fax_rows.proofs.two_dimensional.slow_path.finish_by_table.Given as goal

abbrev pub invariant-loop-ahead : goal.invariant-loop-ahead
invariant-loop-ahead g l = record {
  read : IsReadSoFar (not (nat_eq g.row.CANONICAL 0)) l.reference l.changes l.at l.initial.source.remaining
      l.ahead.remaining;
  same_end : l.ahead.place + length l.ahead.remaining ≡ l.initial.source.place + length l.initial.source.remaining;
}

abbrev pub decreases-loop-ahead : goal.decreases-loop-ahead
decreases-loop-ahead g l = length l.ahead.remaining
