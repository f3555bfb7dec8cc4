-- What is reported of a strip with no file around it. A definition without a citation is this
-- project's profile.
use Rattle.std.specs.Prelude.{◌≡◌, ℕ, ◌⊎◌, List, Ok, Err}
use Rattle.fax_bits.specs.Bits.{bits}
use Rattle.fax_page.specs.declared.StripFault.{StripFault}
use Rattle.fax_page.specs.declared.StripForm.{StripForm}
use Rattle.fax_page.specs.declared.notes.StripNotes.{StripNotes}
use Rattle.fax_page.specs.Strip.{noted}
use Rattle.fax_page.specs.declared.notes.UncountedNotes.{UncountedNotes}
use Rattle.fax_page.specs.declared.RowsEnd.{RowsEnd}
use Rattle.fax_page.specs.declared.RowsEnd.TheVariants.{DataEnd, Marked}
use Rattle.fax_page.specs.views.Strip.{noted_uncounted}
use Rattle.fax_files.specs.declared.Cause.TheVariants.{Strip}
use Rattle.fax_c.specs.declared.faults.FaxFault.{FaxFault}
use Rattle.fax_c.specs.declared.strip_form.FaxStrip.{FaxStrip}
use Rattle.fax_c.specs.declared.strip_report.FaxStripReport.{FaxStripReport}
use Rattle.fax_c.specs.Numbers.{bool_number}
use Rattle.fax_c.specs.Told.{end_fault, end_status, fault_of_cause, no_fault}
use Rattle.fax_c.specs.views.BareStrips.{IsReadable, IsReadableUncounted}

-- all rows were read, with these notes
abbrev pub report_of_notes : ℕ → StripNotes → FaxStripReport
report_of_notes rows notes = record {
  rows = rows;
  no_end_of_block = bool_number notes.no_end_of_block;
  return_to_control = bool_number notes.return_to_control;
  data_after_end = bool_number notes.data_after_end;
  not_t4_choice = bool_number notes.not_t4_choice;
  fault = no_fault;
}

-- so many rows were read, and then a fault was met
abbrev pub report_without_notes : ℕ → FaxFault → FaxStripReport
report_without_notes rows fault = record {
  rows = rows;
  no_end_of_block = 0;
  return_to_control = 0;
  data_after_end = 0;
  not_t4_choice = 0;
  fault = fault;
}

-- so many rows of a strip of unknown height were read, with these notes where they end well
abbrev pub report_of_end : ℕ → RowsEnd → StripNotes → FaxStripReport
report_of_end rows Marked notes = report_of_notes rows notes
report_of_end rows DataEnd notes = report_of_notes rows notes
report_of_end rows end notes = report_without_notes rows (end_fault 0 rows end)

-- the rows of a strip of unknown height are read, and their notes reported where they end well, or
-- the fault in the way of the next; or memory was refused; or the strip can be read so in no form
-- of these numbers; then nothing is changed
abbrev pub TellsUncountedReport : List ℕ → FaxStrip → FaxStripReport → FaxStripReport → ℕ → Type 0
TellsUncountedReport strip given old report status =
    ((form : StripForm) × IsReadableUncounted strip given form
    × (((found : UncountedNotes) × (found ≡ noted_uncounted form (bits form.order strip))
    × (report ≡ report_of_end found.rows found.end found.notes) × (status ≡ end_status found.end))
    ⊎ ((status ≡ 4) × (report ≡ old))))
    ⊎ ((status ≡ 7) × ((form : StripForm) → IsReadableUncounted strip given form → ⊥)
    × (report ≡ old))

-- the rows of a strip are read, and its notes reported, or the first row that cannot be read; or
-- memory was refused, and nothing is changed; or the strip can be read in no form of these numbers,
-- but where the height is unknown
abbrev pub TellsStripReport : List ℕ → FaxStrip → FaxStripReport → FaxStripReport → ℕ → Type 0
TellsStripReport strip given old report status =
    ((form : StripForm) × IsReadable strip given form
    × (((status ≡ 1) × (notes : StripNotes) × (noted form (bits form.order strip) ≡ Ok notes)
    × (report ≡ report_of_notes form.rows notes))
    ⊎ ((status ≡ 2) × (row : ℕ) × (fault : StripFault)
    × (noted form (bits form.order strip) ≡ Err (row, fault))
    × (report ≡ report_without_notes row (fault_of_cause 0 row (Strip fault))))
    ⊎ ((status ≡ 4) × (report ≡ old))))
    ⊎ (((form : StripForm) → IsReadable strip given form → ⊥)
    × TellsUncountedReport strip given old report status)
