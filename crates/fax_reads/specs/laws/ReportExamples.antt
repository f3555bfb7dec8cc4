-- Worked files with what is reported of them. Each answer was worked out by T.4, by T.6 and by this
-- project's profile, so a wrong definition is an example that does not hold.
use Rattle.std.specs.Prelude.{◌≡◌, ◌↔◌, ℕ, true, false, List, [], ◌∷◌, ◌++◌, length, Option, Some}
use Rattle.std.specs.Prelude.{None}
use Rattle.fax_files.specs.declared.FileFault.TheVariants.{DirectoryLoop, StripOutside}
use Rattle.fax_files.specs.declared.bad_rows.Received.{Received}
use Rattle.fax_files.specs.Layout.{WrittenField}
use Rattle.fax_walk.specs.declared.checking.Note.{Note}
use Rattle.fax_walk.specs.declared.checking.NoteKind.{NoteKind}
use Rattle.fax_walk.specs.declared.checking.NoteKind.TheVariants as Kind
use Rattle.fax_walk.specs.declared.checking.Report.{Report}
use Rattle.fax_walk.specs.Pages.{File}
use Rattle.fax_walk.specs.Report.{IsReport}
use Rattle.fax_reads.specs.Reports.{ReportRead}
use Rattle.fax_reads.specs.laws.FileExamples.{worked_file, page_before, page_fields, page_with}
use Rattle.fax_reads.specs.laws.FileExamples.{short}
use Rattle.fax_reads.specs.laws.FileExamples.{with, without}
use Rattle.fax_reads.specs.laws.Reports.{parts_of}

-- a report is the one of this file where its parts are these, and no other is
abbrev pub HasReport : List ℕ → ReportRead → Type 0
HasReport file read = (report : Report) → IsReport false file report ↔ (read ≡ parts_of report)

-- the same of a report with what receivers counted
abbrev pub HasReportWithReceived : List ℕ → ReportRead → Type 0
HasReportWithReceived file read =
    (report : Report) → IsReport true file report ↔ (read ≡ parts_of report)

-- one page of one row was read, and these are the notes
abbrev pub one_row_report : List Note → ReportRead
one_row_report notes = record { notes = notes; pages = 1; rows = 1; fault = None }

-- a note on the first page, or on the first strip of it
abbrev pub note : Option ℕ → NoteKind → List Note
note strip kind = record { page = 0; strip = strip; kind = kind } ∷ []

-- the page with other bytes as its strip, in MMR and in MH
abbrev pub mmr : List ℕ → List ℕ
mmr bytes = worked_file (with (short 279 (length bytes)) page_fields) bytes

abbrev pub mh_fields : List ℕ → List WrittenField
mh_fields bytes = with (short 259 3) (with (short 279 (length bytes)) page_fields)

abbrev pub mh : List ℕ → List ℕ
mh bytes = worked_file (mh_fields bytes) bytes

-- eight white pels in MH, and nothing more
abbrev pub eight_white : List ℕ
eight_white = 0x98 ∷ []

-- that row in a page whose receiver counted so many bad rows, and says this of its data
-- (RFC 2306, BadFaxLines and CleanFaxData)
abbrev pub mh_received : ℕ → ℕ → List ℕ
mh_received bad clean =
    worked_file (with (short 273 110) (mh_fields eight_white) ++ short 326 bad ∷ short 327 clean
    ∷ [])
    eight_white

abbrev pub bad_and_clean : ℕ → ℕ → Received
bad_and_clean bad clean = record { bad_rows = Some bad; clean = Some clean; consecutive = None }

pub record AreReportsRead : Type 0 where
  -- nothing is noted
  pub row_alone : HasReport (mh eight_white) (one_row_report [])
  pub end_of_block : HasReport (mmr (0x80 ∷ 0x08 ∷ 0x00 ∷ 0x80 ∷ [])) (one_row_report [])
  -- N1 to N5
  pub no_end_of_block : HasReport (page_before 0) (one_row_report (note (Some 0) Kind.NoEndOfBlock))
  pub six_eols : HasReport
      (mh (0x98 ∷ 0x00 ∷ 0x80 ∷ 0x08 ∷ 0x00 ∷ 0x80 ∷ 0x08 ∷ 0x00 ∷ 0x80 ∷ 0x08 ∷ []))
      (one_row_report (note (Some 0) Kind.ReturnToControl))
  pub one_after_the_row : HasReport (mh (0x99 ∷ []))
      (one_row_report (note (Some 0) Kind.DataAfterEnd))
  -- four white pels, no black one, and four white ones
  pub row_in_parts : HasReport (mh (0xb0 ∷ 0xde ∷ 0xc0 ∷ []))
      (one_row_report (note (Some 0) Kind.NotT4Choice))
  pub last_field_first : HasReport
      (worked_file (short 279 1 ∷ without 279 (mh_fields eight_white)) eight_white)
      (one_row_report (note None Kind.EntriesOutOfOrder))
  -- horizontal mode in MMR where T.4 chooses vertical mode
  pub two_notes : HasReport (mmr (0x33 ∷ 0x0d ∷ 0xc0 ∷ []))
      (one_row_report (note (Some 0) Kind.NoEndOfBlock ++ note (Some 0) Kind.NotT4Choice))
  -- N6, where it is asked for: a bad row in data that are not said to be clean, and none
  pub bad_row : HasReportWithReceived (mh_received 1 1)
      (one_row_report (note None (Kind.BadFaxLines (bad_and_clean 1 1))))
  pub not_asked_for : HasReport (mh_received 1 1) (one_row_report [])
  pub clean : HasReportWithReceived (mh_received 0 0) (one_row_report [])
  pub data_not_clean : HasReportWithReceived (mh_received 0 2)
      (one_row_report (note None (Kind.BadFaxLines (bad_and_clean 0 2))))
  -- faults
  pub loop : HasReport (page_before 8) (record {
    notes = note (Some 0) Kind.NoEndOfBlock;
    pages = 1;
    rows = 1;
    fault = Some (record { page = 1; row = 0 }, File DirectoryLoop);
  })
  pub strip_outside : HasReport (page_with (short 273 87)) (record {
    notes = [];
    pages = 0;
    rows = 0;
    fault = Some (record { page = 0; row = 0 }, File StripOutside);
  })
