use Rattle.fax_c.proofs.NoteLemmas.{AreFirstPut}
use Rattle.fax_c.proofs.file_report.put_notes.Given as goal

abbrev pub invariant-loop-i : goal.invariant-loop-i
invariant-loop-i l = AreFirstPut l.found l.i l.initial.notes l.notes
