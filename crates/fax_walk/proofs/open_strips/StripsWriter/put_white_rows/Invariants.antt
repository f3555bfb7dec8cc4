use Rattle.std.proofs.Common.{◌-◌, ◌≤◌}
use Rattle.fax_walk.specs.code.StripsWriter.{PutsWhiteRows}
use Rattle.fax_walk.proofs.open_strips.StripsWriter.put_white_rows.Given as goal

abbrev pub invariant-loop-remaining : goal.invariant-loop-remaining
invariant-loop-remaining l = record {
  within : l.remaining ≤ l.count;
  put : PutsWhiteRows l.fn.self (l.count - l.remaining) l.self;
}

abbrev pub decreases-loop-remaining : goal.decreases-loop-remaining
decreases-loop-remaining l = l.remaining
