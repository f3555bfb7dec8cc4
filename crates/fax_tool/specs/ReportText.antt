-- What is written of a file that is checked, and of one that is converted.
-- A definition without a citation is this project's profile.
use Rattle.std.specs.Prelude.{◌≡◌, ◌⊎◌, Bool, ℕ, List, [], ◌++◌, flat_map, codes, decimal, Option}
use Rattle.std.specs.Option.{option_map_or}
use Rattle.fax_walk.specs.Report.{IsReport, number_and_name}
use Rattle.fax_files.specs.Pbm.{pbm_fault_name}
use Rattle.fax_walk.specs.declared.checking.Note.{Note}
use Rattle.fax_walk.specs.declared.checking.NoteKind.{NoteKind}
use Rattle.fax_walk.specs.declared.checking.NoteKind.TheVariants as Kind
use Rattle.fax_walk.specs.declared.checking.Report.{Report}
use Rattle.fax_walk.specs.declared.options.ConvertFault.{ConvertFault}
use Rattle.fax_walk.specs.declared.options.ConvertFault.TheVariants as Refused
use Rattle.fax_walk.specs.declared.options.Options.{Options}
use Rattle.fax_walk.specs.Converted.{IsConverted, IsNotConverted}
use Rattle.fax_tool.specs.Text.{Printed, and_number, fault_line}

-- ` N`, or ` -` where there is no number
abbrev pub and_count : Option ℕ → List ℕ
and_count number = option_map_or and_number number (codes " -")

-- ` N M C`, what the receiver of a page counted: the bad rows, how many of them came one after
-- another at most, and whether bad rows stand in the data (RFC 2306, BadFaxLines,
-- ConsecutiveBadFaxLines and CleanFaxData)
abbrev pub and_counts : NoteKind → List ℕ
and_counts (Kind.BadFaxLines counts) =
    and_count counts.bad_rows ++ and_count counts.consecutive ++ and_count counts.clean
and_counts _ = []

-- `note page P strip S: N3 DataAfterEnd`, and for a note on a directory `note page P: N5
-- EntriesOutOfOrder` or `note page P: N6 BadFaxLines N M C`
unfoldable pub note_line : Note → List ℕ
note_line note =
    codes "note page" ++ and_number note.page
    ++ option_map_or (λ strip. codes " strip" ++ and_number strip) note.strip [] ++ codes ": N"
    ++ decimal (number_and_name note.kind).0 ++ codes " " ++ (number_and_name note.kind).1
    ++ and_counts note.kind ++ codes "\n"

-- what is written of a report: the notes, line by line, `pages P rows R`, how many pages were read
-- wholly, and how many rows, and the error line of its fault, if it has one
abbrev pub report_text : Report → Printed
report_text report = record {
  output = flat_map note_line report.notes.items
      ++ (codes "pages" ++ and_number report.pages ++ codes " rows" ++ and_number report.rows
      ++ codes "\n");
  error = option_map_or (λ fault. fault_line fault.0.page fault.0.row fault.1) report.fault [];
  status = option_map_or (λ fault. 1) report.fault 0;
}

-- what is written of a file that is checked, with what receivers counted or without
abbrev pub IsCheckText : Bool → List ℕ → Printed → Type 0
IsCheckText with_received file printed =
    (report : Report) × IsReport with_received file report × (printed ≡ report_text report)

-- the error line of a file that is not converted: `fault image I: Name` for one image of several;
-- that of Memory is asked for by nothing, since `IsNotConverted` is never so there
abbrev pub convert_fault_line : ConvertFault → List ℕ
convert_fault_line Refused.UnknownInput = codes "fault: UnknownInput\n"
convert_fault_line (Refused.Pbm image fault) =
    codes "fault image" ++ and_number image ++ codes ": " ++ pbm_fault_name fault ++ codes "\n"
convert_fault_line (Refused.Source page row cause) = fault_line page row cause
convert_fault_line Refused.OutputTooLarge = codes "fault: OutputTooLarge\n"
convert_fault_line Refused.Memory = codes "fault: Memory\n"

-- what is written of a file that is converted, or is not
abbrev pub IsConversionText : Options → List ℕ → Printed → Type 0
IsConversionText options file printed =
    ((output : List ℕ) × IsConverted file options output
    × (printed ≡ record { output = output; error = []; status = 0 }))
    ⊎ ((fault : ConvertFault) × IsNotConverted file options fault
    × (printed ≡ record { output = []; error = convert_fault_line fault; status = 1 }))
