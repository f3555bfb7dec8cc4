-- How commands end, by what was read and what was written.
use Rattle.std.proofs.lemmas.Grind.{common_steps}
use Rattle.std.proofs.Common.{◌≡◌, ◌≢◌, ℕ, ◌≤◌, List, [], inl, refl, arith, ◌∙◌, sym}
use Rattle.std.specs.Prelude.{Option, IfSome}
use Rattle.std.specs.Io.KnownBytes.{Appends}
use Rattle.std.proofs.KnownBytes.{Appends-nil}
use Rattle.fax_walk.specs.declared.walk_start.WalkStart.{WalkStart}
use Rattle.fax_walk.specs.declared.walk_start.WalkStart.TheVariants.{AtCursor}
use Rattle.fax_walk.specs.declared.end.End.{End}
use Rattle.fax_walk.specs.laws.Tails.{BeginningsHaveOneTail, CursorsHaveOneFormTail}
use Rattle.fax_walk.specs.Items.{start_cursor}
use Rattle.fax_tool.specs.declared.refusal.Refusal.{Refusal}
use Rattle.fax_tool.specs.declared.refusal.Refusal.TheVariants.{Memory, Read, Write}
use Rattle.fax_tool.specs.declared.args.Command.{Command}
use Rattle.fax_tool.specs.declared.args.Command.TheVariants.{List as Forms, Rows}
use Rattle.fax_tool.specs.declared.args.Selection.{Selection}
use Rattle.fax_tool.specs.Run.{Counts, Input, Output, HasWorked, IsRead, IsTextAfterMemory, IsTextOf, IsTextOfFirst}
use Rattle.fax_tool.specs.Run.{origin_of}
use Rattle.fax_tool.specs.Streams.{input_after, output_after}
use Rattle.fax_tool.specs.Text.{PrintedLine, Printed, next_line}
use Rattle.fax_tool.specs.code.Outcome.{HasReadReason, IsDone, IsStopped, StopsAtBeginning, StopsPrinting, StopsWith}
use Rattle.fax_tool.specs.code.Outcome.{error_of, status_of}
use Rattle.fax_tool.specs.code.Transfers.{IsGivenInPart}
use Rattle.fax_tool.proofs.LineLemmas.{one_pages, one_rows}
use Rattle.fax_tool.proofs.StopLemmas.{NoText, leaves_more, of_some_file, stops_in_part}
use Rattle.fax_tool.proofs.TextLemmas.{first_text}

no_lines : (max : Option ℕ) → IfSome max (λ limit. 0 ≤ limit)
no_lines max = grind arith

-- the text of no line: where to continue
of_none : (are : List PrintedLine → End → Type 0) (max : Option ℕ) (origin : WalkStart)
    → ((lines : List PrintedLine) × (end : End) × are lines end)
    → (text : List ℕ) → text ≡ next_line (AtCursor (start_cursor origin)) → IsTextOfFirst are max origin text
of_none are max origin (lines, end, all) text is =
    (lines, end, all, 0, omega arith, no_lines max, is ∙ sym (first_text origin 0 lines end (omega arith)))

-- the input was not read
pub unread : (text : List ℕ) (refusal : Refusal) (input : Input) (old : Option (List ℕ)) (counts : Counts)
    → refusal ≢ Memory → HasReadReason refusal input → HasWorked counts
    → StopsAtBeginning text refusal input (output_after old old counts)
unread text refusal input old counts other reason worked = grind (arith, common_steps)

-- the input was read but for memory, and this was to be written then
pub unread_for_memory : (text : List ℕ) (refusal : Refusal) (input : Input) (output : Output) → IsRead input
    → StopsWith text refusal output → StopsAtBeginning text refusal input output
unread_for_memory text refusal input output read stops = grind arith

module _ (command : Command) (bytes : Option (List ℕ)) (taken : ℕ) (counts : Counts) (output : Output) where
  abbrev input : Input
  input = input_after bytes taken counts

  -- the input was not read, and where to continue was to be written
  stopped_first : (text : List ℕ) (refusal : Refusal)
      → ((file : List ℕ) (t : List ℕ) → t ≡ text → IsTextAfterMemory command file t)
      → StopsAtBeginning text refusal input output → IsStopped command refusal input output
  stopped_first text refusal first stops = record {
    reason = stops.reason;
    leaves = of_some_file _ bytes (λ file.
        leaves_more NoText (IsTextOf command file) (λ t. t ≡ text) (IsTextAfterMemory command file) refusal output
        (λ printed none. absurd none) (first file) stops.leaves);
  }

  module _ (file : List ℕ) (same : IfSome bytes (λ b. file ≡ b)) (read : IsRead input) where
    pub command_stops : (refusal : Refusal)
        → StopsPrinting (IsTextOf command file) (IsTextAfterMemory command file) refusal output
        → IsStopped command refusal input output
    command_stops refusal stops = grind arith

-- rows were not read, and where to continue was to be written
pub rows_unread : BeginningsHaveOneTail → (part : Selection) (refusal : Refusal) (bytes : Option (List ℕ)) (taken : ℕ)
    (counts : Counts) (output : Output)
    → StopsAtBeginning (next_line (AtCursor (start_cursor (origin_of part)))) refusal (input_after bytes taken counts)
    output
    → IsStopped (Rows part) refusal (input_after bytes taken counts) output
rows_unread tails part refusal bytes taken counts output stops =
    stopped_first (Rows part) bytes taken counts output (next_line (AtCursor (start_cursor (origin_of part)))) refusal
    (λ file. let one = one_rows file tails (origin_of part) in of_none _ part.max (origin_of part) (
      one.items,
      one.end,
      one.is,
    )) stops

-- the part's beginning was refused
pub rows_not_started : BeginningsHaveOneTail → (part : Selection) (refusal : Refusal) (bytes : Option (List ℕ)) (taken :
    ℕ)
    (counts : Counts) (output : Output) → IsRead (input_after bytes taken counts)
    → StopsWith (next_line (AtCursor (start_cursor (origin_of part)))) refusal output
    → IsStopped (Rows part) refusal (input_after bytes taken counts) output
rows_not_started tails part refusal bytes taken counts output read stops =
    rows_unread tails part refusal bytes taken counts output
    (unread_for_memory (next_line (AtCursor (start_cursor (origin_of part)))) refusal (input_after bytes taken counts)
    output
    read stops)

-- pages were not read, and where to continue was to be written
pub pages_unread : CursorsHaveOneFormTail → (part : Selection) (refusal : Refusal) (bytes : Option (List ℕ)) (taken : ℕ)
    (counts : Counts) (output : Output)
    → StopsAtBeginning (next_line (AtCursor part.cursor)) refusal (input_after bytes taken counts) output
    → IsStopped (Forms part) refusal (input_after bytes taken counts) output
pages_unread tails part refusal bytes taken counts output stops =
    stopped_first (Forms part) bytes taken counts output (next_line (AtCursor part.cursor)) refusal (λ file text is.
    let one = one_pages file tails part.cursor in
    of_none _ part.max (AtCursor part.cursor) (one.items, one.end, one.is) text is) stops

module _ (command : Command) (none : (file : List ℕ) → IsTextAfterMemory command file []) (bytes : Option (List ℕ))
    (taken : ℕ) (counts : Counts) (old : Option (List ℕ)) (given : Counts) (worked : HasWorked given) where
  -- memory was refused before anything was written
  pub without_memory : IsRead (input_after bytes taken counts)
      → IsStopped command Memory (input_after bytes taken counts) (output_after old old given)
  without_memory read =
      record { reason = (read, worked); leaves = of_some_file _ bytes (λ file. ([], none file, Appends-nil old)) }

  -- the input was not read
  pub whole_unread : (refusal : Refusal) → HasReadReason refusal (input_after bytes taken counts)
      → IsStopped command refusal (input_after bytes taken counts) (output_after old old given)
  whole_unread Memory read = without_memory read
  whole_unread Read unread =
      record { reason = (unread, worked); leaves = of_some_file _ bytes (λ file. ([], refl, Appends-nil old)) }
  whole_unread Write none = absurd none

-- a text was given in part
pub text_stopped : (command : Command) (bytes : Option (List ℕ)) (taken : ℕ) (counts : Counts) (file : List ℕ)
    (old new : Option (List ℕ))
    (given : Counts) (printed : Printed) (refusal : Refusal) → IfSome bytes (λ b. file ≡ b)
    → IsRead (input_after bytes taken counts)
    → IsTextOf command file printed → IsGivenInPart old new printed.output given refusal
    → IsStopped command refusal (input_after bytes taken counts) (output_after old new given)
text_stopped command bytes taken counts file old new given printed refusal same read is part =
    command_stops command bytes taken counts (output_after old new given) file same read refusal
    (stops_in_part (IsTextOf command file) (IsTextAfterMemory command file) old new printed.output given refusal (inl
    (printed, is, refl)) part)

-- a text was given whole
pub text_done : (command : Command) (bytes : Option (List ℕ)) (taken : ℕ) (counts : Counts) (file : List ℕ)
    (old new : Option (List ℕ))
    (given : Counts) (printed : Printed) (line : Option (List ℕ)) → IfSome bytes (λ b. file ≡ b)
    → IsRead (input_after bytes taken counts)
    → IsTextOf command file printed → Appends old new printed.output → HasWorked given → printed.error ≡ error_of line
    → printed.status ≡ status_of line → IsDone command (input_after bytes taken counts) (output_after old new given)
    line
text_done command bytes taken counts file old new given printed line same read is moved worked error status =
    grind arith
