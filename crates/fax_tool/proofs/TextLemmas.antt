-- The text of lines that are printed up to a limit or to their end.
use Rattle.std.proofs.lemmas.Grind.{common_steps}
use Rattle.std.proofs.Common.{◌≡◌, ℕ, ◌<◌, ◌≤◌, List, ◌++◌, length, take, refl, ap, sym, ◌∙◌, arith, false, Bool, ◌↔◌}
use Rattle.std.proofs.Math.Seq.{take-length}
use Rattle.std.proofs.lemmas.Bool.{lt-leb}
use Rattle.std.proofs.KnownBytes.{Appends-trans}
use Rattle.std.specs.Prelude.{Option, Some, None, IfSome, nat_le}
use Rattle.std.specs.Io.KnownBytes.{Appends}
use Rattle.fax_walk.specs.declared.walk_start.WalkStart.{WalkStart}
use Rattle.fax_walk.specs.declared.end.End.{End}
use Rattle.fax_walk.specs.declared.end.End.TheVariants.{EndOfPages, Fault, Outside}
use Rattle.fax_bits.specs.laws.Codes.{IsOne}
use Rattle.fax_tool.specs.declared.refusal.Refusal.{Refusal}
use Rattle.fax_tool.specs.Run.{Counts, IsTextOfFirst, IsTextOfLines}
use Rattle.fax_tool.specs.Streams.{output_after}
use Rattle.fax_tool.specs.Text.{PrintedLine, end_text, named, next_after, next_line, text_of, texts_of}
use Rattle.fax_tool.specs.code.Outcome.{StopsPrinting, WritesOutput, end_line, error_of, status_of}
use Rattle.fax_tool.specs.code.Printing.{EndsWith, IsLastLine, IsNextLine, PrintsLines}
use Rattle.fax_tool.proofs.StopLemmas.{NoText, stops_after}

pub all_taken : {A : Type 0} (n : ℕ) (xs : List A) → length xs ≤ n → take n xs ≡ xs
all_taken n xs within = grind (arith, common_steps)

-- the error line of an end, and its status
pub end_is : (end : End) (next : WalkStart) → ((end_text (Some end) next).error ≡ error_of (end_line (Some end)))
    × ((end_text (Some end) next).status ≡ status_of (end_line (Some end)))
end_is EndOfPages next = (refl, refl)
end_is (Fault page row cause) next = (refl, refl)
end_is Outside next = (refl, refl)

-- the text up to a limit that cuts the lines
pub first_text : (origin : WalkStart) (count : ℕ) (lines : List PrintedLine) (end : End) → count ≤ length lines
    → (text_of false (Some count) origin lines end).output
    ≡ texts_of (take count lines) ++ next_line (named false (next_after origin (take count lines)))
first_text origin count lines end some = grind arith

-- what is printed after lines where printing ended so: at a limit where to continue
abbrev ending_text : Option End → WalkStart → List ℕ
ending_text ending next = (end_text ending next).output

-- the text of the lines, with its output, and the error line and status of its end
record IsEndedText (lines : List PrintedLine) (end : End) (count : ℕ) (long : Bool) (max : Option ℕ) (origin :
    WalkStart)
    (ending : Option End) : Type 0
  where
    output : (text_of long max origin lines end).output
        ≡ texts_of (take count lines) ++ ending_text ending (named long (next_after origin (take count lines)))
    error : (text_of long max origin lines end).error ≡ error_of (end_line ending)
    status : (text_of long max origin lines end).status ≡ status_of (end_line ending)
    within : IfSome max (λ limit. count ≤ limit)
    some : count ≤ length lines

whole_ended : (lines : List PrintedLine) (end : End) (long : Bool) (max : Option ℕ) (origin : WalkStart)
    → IfSome max (λ limit. length lines < limit)
    → IsEndedText lines end (length lines) long max origin (Some end)
whole_ended lines end long None origin few = record {
  output = rw take-length refl;
  error = (end_is end (named long (next_after origin lines))).0;
  status = (end_is end (named long (next_after origin lines))).1;
  within = tt;
  some = omega arith;
}
whole_ended lines end long (Some limit) origin few =
    let no : nat_le limit (length lines) ≡ false = lt-leb limit (length lines) few in
    let all : take limit lines ≡ lines = all_taken limit lines (omega arith) in
    record {
      output = rw (no, all, take-length) refl;
      error = rw (no, all) (end_is end (named long (next_after origin lines))).0;
      status = rw (no, all) (end_is end (named long (next_after origin lines))).1;
      within = omega arith;
      some = omega arith;
    }

by_ending : (lines : List PrintedLine) (end : End) (count : ℕ) (long : Bool) (max : Option ℕ) (origin : WalkStart)
    (ending : Option End)
    → EndsWith lines end count max ending → IsEndedText lines end count long max origin ending
by_ending lines end count long max origin ending h = grind (arith, whole_ended)

module _ {tail now : List PrintedLine → End → Type 0} (one : IsOne tail)
    (same : (all : List PrintedLine) (end : End) → tail all end ↔ now all end)
    {origin now_started : WalkStart} (same_started : now_started
    ≡ origin) (long : Bool) {max : Option ℕ} {ending : Option
    End}
    {count : ℕ} {output written : Option (List ℕ)} (prints : PrintsLines tail max ending count output written) where
  ended : IsEndedText prints.lines prints.end count long max origin ending
  ended = by_ending prints.lines prints.end count long max origin ending prints.ends

  abbrev texts : List ℕ
  texts = texts_of (take count prints.lines)

  last_is : (line : List ℕ) (met : Option End) → IsLastLine now now_started count long met line
      → line ≡ ending_text met (named long (next_after origin (take count prints.lines)))
  last_is line met is = grind arith

  whole : (line : List ℕ) → IsLastLine now now_started count long ending line
      → (text_of long max origin prints.lines prints.end).output ≡ texts ++ line
  whole line is = ended.output ∙ ap (λ (l : List ℕ). texts ++ l) (sym (last_is line ending is))

  first : (line : List ℕ) → IsNextLine now now_started count false line → IsTextOfFirst tail max origin (texts ++ line)
  first line is = grind arith

  -- the lines and the last line are printed
  pub all_printed : (new_written : Option (List ℕ)) (counts : Counts) (line : List ℕ)
      → IsLastLine now now_started count long ending line → Appends written new_written line
      → WritesOutput (IsTextOfLines tail long max origin) (output_after output new_written counts) (end_line ending)
  all_printed new_written counts line is moved = record {
    printed = text_of long max origin prints.lines prints.end;
    is = (prints.lines, prints.end, prints.is, refl);
    output_is = rw (whole line is) (Appends-trans output written new_written (texts_of
        (take count prints.lines)) line prints.printed moved);
    error_is = ended.error;
    status_is = ended.status;
  }

  -- the last line was refused
  pub stopped_at_last : (new_written : Option (List ℕ)) (counts : Counts) (refusal : Refusal)
      → StopsPrinting (λ printed. IsLastLine now now_started count long ending printed.output)
      (IsNextLine now now_started count false) refusal (output_after written new_written counts)
      → StopsPrinting (IsTextOfLines tail long max origin) (IsTextOfFirst tail max origin) refusal
      (output_after output new_written counts)
  stopped_at_last new_written counts refusal stops =
      stops_after (λ printed. IsLastLine now now_started count long ending printed.output)
      (IsTextOfLines tail long max origin)
      (IsNextLine now now_started count false) (IsTextOfFirst tail max origin) refusal output written new_written counts
      (texts_of (take count prints.lines)) prints.printed
      (λ printed is. (
        text_of long max origin prints.lines prints.end,
        (prints.lines, prints.end, prints.is, refl),
        whole printed.output is,
      )) first stops

-- the lines were refused
pub stopped_at_lines : (tail : List PrintedLine → End → Type 0) (origin : WalkStart) (long : Bool) (max : Option ℕ)
    (output new_output : Option
    (List ℕ))
    (counts : Counts) (refusal : Refusal)
    → StopsPrinting NoText (IsTextOfFirst tail max origin) refusal (output_after output new_output counts)
    → StopsPrinting (IsTextOfLines tail long max origin) (IsTextOfFirst tail max origin) refusal
    (output_after output new_output counts)
stopped_at_lines tail origin long max output new_output counts refusal stops = grind arith
