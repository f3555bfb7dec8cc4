use Rattle.std.proofs.Common.{◌≡◌, ◌-◌, ◌^◌}
use Rattle.std.specs.Prelude.{None}
use Rattle.fax_walk.specs.code.Check.{ArePagesChecked}
use Rattle.fax_walk.specs.code.Opening.{IsChainBefore}
use Rattle.fax_walk.proofs.checking.check_pages.Given as goal

abbrev pub invariant-loop-directory : goal.invariant-loop-directory
invariant-loop-directory l = record {
  before : IsChainBefore l.fn.tiff.file l.chain.yielded l.chain;
  read : ArePagesChecked l.fn.with_received l.fn.tiff.file l.chain.yielded l.report.rows l.report.notes.items;
  none : l.report.fault ≡ None;
}

abbrev pub decreases-loop-directory : goal.decreases-loop-directory
decreases-loop-directory l = 2 ^ 32 - l.chain.yielded
