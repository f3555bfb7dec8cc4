use Rattle.std.proofs.Common.{length}
use Rattle.fax_page.specs.code.Salvage.{IsPassedBy}
use Rattle.fax_page.proofs.lines.first_eol.Given as goal

abbrev pub invariant-loop-zeros : goal.invariant-loop-zeros
invariant-loop-zeros l = IsPassedBy l.fn.source l.source

abbrev pub decreases-loop-zeros : goal.decreases-loop-zeros
decreases-loop-zeros l = length l.source.remaining
