use Rattle.std.proofs.Common.{ap, inl, sym}
use Rattle.fax_c.specs.Checked.{report_status}
use Rattle.fax_c.proofs.file_report.faxpages_check.Goals as goal

pub returns-in-Some : goal.returns-in-Some
returns-in-Some c =
    let notes = rw c.deref.ensures.value at c.put_notes.ensures in
    inl (c.in-Ok.found, c.in-Ok.ensures, notes, c.of.ensures, sym (ap report_status c.in-Some.is))

pub returns-in-Ok : goal.returns-in-Ok
returns-in-Ok c =
    let notes = rw c.deref.ensures.value at c.put_notes.ensures in
    inl (c.in-Ok.found, c.in-Ok.ensures, notes, c.of.ensures, sym (ap report_status c.in-None.is))
