use Rattle.std.proofs.Common.{◌<◌, ◌≤◌, ◌-◌, get_or}
use Rattle.fax_rows.proofs.changes_of_row.changes_up_to.Given as goal

abbrev pub invariant-loop-low : goal.invariant-loop-low
invariant-loop-low l = record {
  some : 0 < l.low;
  order : l.low ≤ l.high;
  within : l.high ≤ l.end;
  left_hand : get_or l.changes (l.low - 1) 0 ≤ l.i;
  right : l.high < l.end → l.i < get_or l.changes l.high 0;
}

abbrev pub decreases-loop-low : goal.decreases-loop-low
decreases-loop-low l = l.high - l.low
