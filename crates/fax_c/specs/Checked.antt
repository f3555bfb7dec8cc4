-- What a check says of a file. A definition without a citation is this project's profile.
use Rattle.std.specs.Prelude.{◌≡◌, ℕ, ◌⊎◌, false, List, ◌++◌, length, map, take, drop, unwrap_or}
use Rattle.std.specs.Prelude.{Option}
use Rattle.std.specs.Prelude.{Some, None}
use Rattle.fax_files.specs.declared.Cause.{Cause}
use Rattle.fax_walk.specs.declared.checking.Note.{Note}
use Rattle.fax_walk.specs.declared.checking.Report.{Report}
use Rattle.fax_walk.specs.declared.walk.Place.{Place}
use Rattle.fax_walk.specs.Report.{IsReport, number_and_name}
use Rattle.fax_c.specs.declared.file_report.FaxNote.{FaxNote}
use Rattle.fax_c.specs.declared.file_report.FaxReport.{FaxReport}
use Rattle.fax_c.specs.declared.faults.FaxFault.{FaxFault}
use Rattle.fax_c.specs.Told.{fault_of_cause, no_fault}

-- a note in the memory of the caller: one on a directory has the largest number for a strip
abbrev pub note_of : Note → FaxNote
note_of note = record {
  page = note.page;
  strip = unwrap_or note.strip 4294967295;
  kind = (number_and_name note.kind).0;
}

-- the fault of a report
abbrev pub reported_fault : Option (Place × Cause) → FaxFault
reported_fault None = no_fault
reported_fault (Some fault) = fault_of_cause fault.0.page fault.0.row fault.1

-- a report as it stands in memory of the caller, without its notes
abbrev pub report_of : Report → FaxReport
report_of report = record {
  pages = report.pages;
  rows = report.rows;
  notes = length report.notes.items;
  fault = reported_fault report.fault;
}

-- the first notes are written, as many as have room, and nothing else is changed
abbrev pub AreNotesPut : List Note → List FaxNote → List FaxNote → Type 0
AreNotesPut found old new =
    new ≡ map note_of (take (length old) found) ++ drop (length found) old

-- the number of how a check has ended: with a fault or without one
abbrev pub report_status : Option (Place × Cause) → ℕ
report_status None = 1
report_status (Some fault) = 2

-- a file's report is written, or memory was refused, and nothing is changed
abbrev pub TellsReport : List ℕ → List FaxNote → List FaxNote → FaxReport → FaxReport → ℕ → Type 0
TellsReport file old_notes notes old report status =
    ((found : Report) × IsReport false file found × AreNotesPut found.notes.items old_notes notes
    × (report ≡ report_of found) × (status ≡ report_status found.fault))
    ⊎ ((status ≡ 4) × (notes ≡ old_notes) × (report ≡ old))
