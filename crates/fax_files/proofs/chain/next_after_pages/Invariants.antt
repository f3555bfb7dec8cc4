use Rattle.std.proofs.Common.{◌≡◌}
use Rattle.fax_files.specs.code.Chain.{offset}
use Rattle.fax_files.proofs.chain.next_after_pages.Given as goal

abbrev pub invariant-loop-page : goal.invariant-loop-page
invariant-loop-page l = l.next_at ≡ offset l.tiff l._page
