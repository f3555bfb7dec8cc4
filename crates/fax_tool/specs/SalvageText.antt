-- What is written of a damaged file by `salvage`: lines, or a file.
-- A definition without a citation is this project's profile.
use Rattle.std.specs.Prelude.{◌≡◌, ◌⊎◌, ℕ, ◌≤◌, List, [], ◌++◌, Option, Some, codes, flat_map}
use Rattle.std.specs.Prelude.{length, map, take, unwrap_or}
use Rattle.std.specs.Option.{option_map_or}
use Rattle.fax_rows.specs.Rows.{runs_of}
use Rattle.fax_files.specs.FaultNames.{fault_name, fault_tag}
use Rattle.fax_walk.specs.Items.{AreItems, RowItem}
use Rattle.fax_walk.specs.Pages.{Cause, File, start}
use Rattle.fax_walk.specs.Salvaged.{IsSalvaged, SalvagedItem, page_refused, row_found, rows_lost}
use Rattle.fax_walk.specs.SalvagedFile.{IsSalvagedAs, IsSalvagedTooLarge}
use Rattle.fax_walk.specs.declared.options.Options.{Options}
use Rattle.fax_walk.specs.declared.options.ConvertFault.TheVariants as Refused
use Rattle.fax_tool.specs.ReportText.{convert_fault_line}
use Rattle.fax_tool.specs.Text.{AtCursor, End, Printed, and_number, end_text, row_line_of}

-- a blank, a fault's name, the tag of the field at fault after it, and the line's end
abbrev pub and_fault : Cause → List ℕ
and_fault cause =
    codes " " ++ fault_name cause ++ option_map_or and_number (fault_tag cause) [] ++ codes "\n"

-- `lost P R N Name`: N rows of a page from row R on are lost, of which the first has this fault
unfoldable pub lost_line : ℕ → ℕ → ℕ → Cause → List ℕ
lost_line page row count cause =
    codes "lost" ++ and_number page ++ and_number row ++ and_number count ++ and_fault cause

-- `lost P Name`: a page whose form is refused for this fault
unfoldable pub refused_line : ℕ → Cause → List ℕ
refused_line page cause = codes "lost" ++ and_number page ++ and_fault cause

-- the line of what is left
abbrev pub line_left : SalvagedItem → List ℕ
line_left (row_found page row pels) = row_line_of page row (runs_of pels)
line_left (rows_lost page row count cause) = lost_line page row count cause
line_left (page_refused page fault) = refused_line page (File fault)

-- the lines of what is left of a file
abbrev pub AreLinesLeft : List ℕ → List (List ℕ) → Type 0
AreLinesLeft file lines =
    (items : List SalvagedItem) × IsSalvaged file items × (lines ≡ map line_left items)

-- what is written of a file: these lines and `end`; the error line and the status are those of the
-- end that its rows have, as `rows` writes them
pub record IsSalvageText (file : List ℕ) (printed : Printed) : Type 0 where
  pub lines : List (List ℕ)
  pub are : AreLinesLeft file lines
  pub rows : List RowItem
  pub end : End
  pub ended : AreItems file rows end
  pub is : printed ≡ record (end_text (Some end) (AtCursor start)) {
    output = flat_map (λ line. line) lines ++ codes "end\n";
  }

-- what is written where memory is refused: the first of the lines
abbrev pub IsSalvageFront : List ℕ → List ℕ → Type 0
IsSalvageFront file output =
    (lines : List (List ℕ)) × AreLinesLeft file lines × (count : ℕ) × (count ≤ length lines)
    × (output ≡ flat_map (λ line. line) (take count lines))

-- what is written of a file that is salvaged so: it, or nothing where no page has a form; the error
-- line and the status are those of the end that its rows have, as `rows` writes them
pub record IsSalvagedText (options : Options) (file : List ℕ) (printed : Printed) : Type 0 where
  pub answer : Option (List ℕ)
  pub salvaged : IsSalvagedAs file options answer
  pub rows : List RowItem
  pub end : End
  pub ended : AreItems file rows end
  pub is : printed ≡ record (end_text (Some end) (AtCursor start)) {
    output = unwrap_or answer [];
  }

-- what is written of a file that is salvaged in a form, or where that would be too large
abbrev pub IsSalvageFileText : Options → List ℕ → Printed → Type 0
IsSalvageFileText options file printed = IsSalvagedText options file printed
    ⊎ (IsSalvagedTooLarge file options
    × (printed ≡ record {
      output = [];
      error = convert_fault_line Refused.OutputTooLarge;
      status = 1;
    }))
