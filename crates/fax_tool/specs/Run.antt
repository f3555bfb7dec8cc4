-- What a run leaves on its streams.
-- A definition without a citation is this project's profile.
use Rattle.std.specs.Prelude.{◌≡◌, ℕ, ◌<◌, ◌≤◌, ◌⊎◌, Bool, false, List, [], ◌++◌, length, map}
use Rattle.std.specs.Prelude.{Option, Some, IfSome, codes, ⊤}
use Rattle.std.specs.Option.{option_map_or}
use Rattle.std.specs.Io.KnownBytes.{Appends}
use Rattle.fax_files.specs.Directory.{max_file}
use Rattle.fax_tool.specs.Text.{WalkStart, AtCursor, AtLongCursor, Cursor, End, PrintedLine}
use Rattle.fax_tool.specs.Text.{Printed}
use Rattle.fax_tool.specs.Text.{line_of_page, line_of_row, text_of}
use Rattle.fax_walk.specs.Pages.{IsFormTail}
use Rattle.fax_walk.specs.Items.{IsTailFrom}
use Rattle.fax_tool.specs.declared.refusal.Refusal.{Refusal}
use Rattle.fax_tool.specs.declared.refusal.Refusal.TheVariants.{Memory, Read, Write}
use Rattle.fax_tool.specs.declared.args.Command.{Command}
use Rattle.fax_tool.specs.declared.args.Command.TheVariants.{List as Forms, Rows, Convert, Check}
use Rattle.fax_tool.specs.declared.args.Command.TheVariants.{Salvage, SalvageFile, Version}
use Rattle.fax_tool.specs.declared.args.Selection.{Selection}
use Rattle.fax_tool.specs.ReportText.{IsCheckText, IsConversionText}
use Rattle.fax_tool.specs.SalvageText.{IsSalvageFileText, IsSalvageFront, IsSalvageText}
use Rattle.fax_tool.specs.Words.{version_text}

-- how many calls on a stream were interrupted, how many failed, and how many files were not opened
pub record Counts : Type 0 where
  pub interrupted : ℕ
  pub failed : ℕ
  pub unopened : ℕ

-- an input after a run: its bytes before it, where known, how many were taken, and its counts
pub record Input : Type 0 where
  pub bytes : Option (List ℕ)
  pub taken : ℕ
  pub counts : Counts

-- an output after a run: what was written before it and after it, where known, and its counts
pub record Output : Type 0 where
  pub before : Option (List ℕ)
  pub after : Option (List ℕ)
  pub counts : Counts

-- so many interrupted calls of a stream are made again
abbrev pub most_interrupted : ℕ
most_interrupted = 1023

-- a call on the stream failed, or too many were interrupted; or neither was so
abbrev pub HasFailed : Counts → Type 0
HasFailed counts = (most_interrupted < counts.interrupted) ⊎ (0 < counts.failed)

abbrev pub HasWorked : Counts → Type 0
HasWorked counts = (counts.interrupted ≤ most_interrupted) × (counts.failed ≡ 0)

-- the input was opened and worked, and is not too long
abbrev pub IsRead : Input → Type 0
IsRead input = (input.counts.unopened ≡ 0) × HasWorked input.counts × (input.taken ≤ max_file)

-- the line of a refusal that is no fault of the input
abbrev pub refusal_line : Refusal → List ℕ
refusal_line Memory = codes "fault: Memory\n"
refusal_line Read = codes "fault: Read\n"
refusal_line Write = codes "fault: Write\n"

-- a refusal is returned for its reason alone
abbrev pub HasReason : Refusal → Input → Output → Type 0
HasReason Memory input output = IsRead input × HasWorked output.counts
HasReason Read input output =
    ((input.counts.unopened ≡ 0) × (HasFailed input.counts ⊎ (max_file < input.taken)))
    × HasWorked output.counts
HasReason Write input output = IsRead input × HasFailed output.counts

-- these lines and this end are those of what is returned so: the lines of its items
pub record AreLinesOf {A : Type 0} (line_of : A → PrintedLine) (are : List A → End → Type 0)
    (lines : List PrintedLine) (end : End) : Type 0 where
  pub items : List A
  pub tail : are items end
  pub lines_are : lines ≡ map line_of items

-- the lines of a file's pages from a cursor on, and those of its rows from any beginning on
abbrev pub ArePageLines : List ℕ → Cursor → List PrintedLine → End → Type 0
ArePageLines file at = AreLinesOf line_of_page (IsFormTail file at)

abbrev pub AreRowLines : List ℕ → WalkStart → List PrintedLine → End → Type 0
AreRowLines file origin = AreLinesOf line_of_row (IsTailFrom file origin)

-- the text of such lines and of their end, which began so, up to a limit, with long cursors or not
abbrev pub IsTextOfLines : (List PrintedLine → End → Type 0) → Bool → Option ℕ → WalkStart → Printed
    → Type 0
IsTextOfLines are long max origin printed =
    (lines : List PrintedLine) × (end : End) × are lines end
    × (printed ≡ text_of long max origin lines end)

-- what is written of such lines where memory is refused: the first of them, up to its own limit
abbrev pub IsTextOfFirst : (List PrintedLine → End → Type 0) → Option ℕ → WalkStart → List ℕ
    → Type 0
IsTextOfFirst are max origin output =
    (lines : List PrintedLine) × (end : End) × are lines end × (count : ℕ) × (count ≤ length lines)
    × IfSome max (λ limit. count ≤ limit)
    × (output ≡ (text_of false (Some count) origin lines end).output)

-- what a part begins with: the place inside a strip, where there is one, else the cursor
abbrev pub origin_of : Selection → WalkStart
origin_of part = option_map_or AtLongCursor part.from (AtCursor part.cursor)

-- what a command writes of a file; the version is the same for each
abbrev pub IsTextOf : Command → List ℕ → Printed → Type 0
IsTextOf (Forms part) file =
    IsTextOfLines (ArePageLines file part.cursor) false part.max (AtCursor part.cursor)
IsTextOf (Rows part) file =
    IsTextOfLines (AreRowLines file (origin_of part)) part.long part.max (origin_of part)
IsTextOf (Convert options) file = IsConversionText options file
IsTextOf (Check received) file = IsCheckText received file
IsTextOf Salvage file = IsSalvageText file
IsTextOf (SalvageFile options) file = IsSalvageFileText options file
IsTextOf Version file =
    λ printed. printed ≡ record { output = version_text; error = []; status = 0 }

-- what a command writes of a file where memory is refused
abbrev pub IsTextAfterMemory : Command → List ℕ → List ℕ → Type 0
IsTextAfterMemory (Forms part) file =
    IsTextOfFirst (ArePageLines file part.cursor) part.max (AtCursor part.cursor)
IsTextAfterMemory (Rows part) file =
    IsTextOfFirst (AreRowLines file (origin_of part)) part.max (origin_of part)
IsTextAfterMemory Salvage file = IsSalvageFront file
IsTextAfterMemory other file = λ output. output ≡ []

-- what a refusal leaves of such a text, of which so much is written where memory is refused: after
-- Memory that, after Read nothing, and after Write a front of either
abbrev pub IsTextLeft : (Printed → Type 0) → (List ℕ → Type 0) → Refusal → List ℕ → Type 0
IsTextLeft is after_memory Memory output = after_memory output
IsTextLeft is after_memory Read output = output ≡ []
IsTextLeft is after_memory Write output =
    (rest : List ℕ) × (((printed : Printed) × is printed × (output ++ rest ≡ printed.output))
    ⊎ after_memory (output ++ rest))

-- this is appended to the output
abbrev pub LeavesText : (Printed → Type 0) → (List ℕ → Type 0) → Refusal → Output → Type 0
LeavesText is after_memory refusal output =
    (text : List ℕ) × IsTextLeft is after_memory refusal text
    × Appends output.before output.after text

-- a run that was not refused: it wrote the output of its command's text, which is that of the
-- input, or of some file where its bytes are not known, and this is so of the text
pub record WritesOutputOf (command : Command) (input : Input) (output : Output)
    (is_said : Printed → Type 0) : Type 0 where
  pub read : IsRead input
  pub written : HasWorked output.counts
  pub text : (file : List ℕ) × IfSome input.bytes (λ bytes. file ≡ bytes)
      × (printed : Printed) × IsTextOf command file printed
      × Appends output.before output.after printed.output × is_said printed

-- and its error stream worked too: it wrote the text's error line, and the status is the text's
abbrev pub WritesText : Command → Input → Output → Output → ℕ → Type 0
WritesText command input output error status = HasWorked error.counts
    × WritesOutputOf command input output (λ printed.
    Appends error.before error.after printed.error × (status ≡ printed.status))

-- a run that was refused, for a reason: it left what it has to, and said why, or could not say it
pub record SaysRefusal (command : Command) (refusal : Refusal) (input : Input)
    (output error : Output) : Type 0 where
  pub reason : HasReason refusal input output
  pub leaves : (file : List ℕ) × IfSome input.bytes (λ bytes. file ≡ bytes)
      × LeavesText (IsTextOf command file) (IsTextAfterMemory command file) refusal output
  pub said : HasFailed error.counts ⊎ Appends error.before error.after (refusal_line refusal)

-- a run with status 3: its error stream failed alone, or it was refused
abbrev pub IsRefused : Command → Input → Output → Output → Type 0
IsRefused command input output error =
    (HasFailed error.counts × WritesOutputOf command input output (λ printed. ⊤))
    ⊎ ((refusal : Refusal) × SaysRefusal command refusal input output error)
