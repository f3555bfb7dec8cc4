use Rattle.fax_page.specs.code.Notes.{AreEolsTaken}
use Rattle.fax_page.proofs.uncounted.may_be_return_to_control.Given as goal

abbrev pub invariant-loop-eol : goal.invariant-loop-eol
invariant-loop-eol l = AreEolsTaken l.coding l.fn.source.remaining l._eol l.ahead.remaining
