use Rattle.std.proofs.Common.{◌≡◌, ◌≢◌, ℕ, ◌+◌, ◌-◌, ◌<◌, ◌≤◌}
use Rattle.fax_files.specs.code.Chain.{offset}
use Rattle.fax_files.proofs.chain.cycle_start.Given as goal

abbrev pub invariant-loop-before : goal.invariant-loop-before
invariant-loop-before l = record {
  before : l.before ≡ offset l.tiff l.page;
  ahead : l.ahead ≡ offset l.tiff (l.page + l.fn.round.len);
  early : l.page ≤ l.fn.round.start;
  first : (i : ℕ) → i < l.page → offset l.tiff i ≢ offset l.tiff (i + l.fn.round.len);
}

abbrev pub decreases-loop-before : goal.decreases-loop-before
decreases-loop-before l = l.fn.round.start - l.page
