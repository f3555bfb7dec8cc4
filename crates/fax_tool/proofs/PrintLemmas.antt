-- Lines that are printed, one after another.
use Rattle.std.proofs.Common.{◌≡◌, ℕ, ◌+◌, ◌-◌, ◌<◌, ◌≤◌, List, [], ◌∷◌, ◌++◌, length, take, ap, sym, ◌∙◌, append_assoc}
use Rattle.std.proofs.Common.{append-nil}
use Rattle.std.proofs.Common.{arith, ◌↔◌, ◌⊎◌, inl, inr, Bool, Result, Ok, Err}
use Rattle.std.proofs.lemmas.Grind.{flat_map-append}
use Rattle.std.proofs.lemmas.Option.{slice_get_within}
use Rattle.std.specs.Prelude.{Option, Some, IfSome, option_map, false, slice_get, IfErr}
use Rattle.std.specs.Io.KnownBytes.{Appends}
use Rattle.std.proofs.KnownBytes.{Appends-trans}
use Rattle.fax_walk.specs.declared.walk_start.WalkStart.{WalkStart}
use Rattle.fax_walk.specs.declared.walk_start.WalkStart.TheVariants.{AtCursor}
use Rattle.fax_walk.specs.declared.cursor.Cursor.{Cursor}
use Rattle.fax_walk.specs.declared.end.End.{End}
use Rattle.fax_walk.specs.views.InOrder.{IsNumber}
use Rattle.fax_bits.specs.laws.Codes.{IsOne}
use Rattle.fax_walk.specs.Items.{start_cursor}
use Rattle.fax_tool.specs.declared.refusal.Refusal.{Refusal}
use Rattle.fax_tool.specs.Run.{Counts, IsTextOfFirst}
use Rattle.fax_tool.specs.Streams.{output_after}
use Rattle.fax_tool.specs.Text.{PrintedLine, named, next_after, next_line, texts_of}
use Rattle.fax_tool.specs.code.Outcome.{StopsPrinting, StopsWith}
use Rattle.fax_tool.specs.code.Printing.{IsLastLine, IsNextAfter, IsNextLine}
use Rattle.fax_tool.specs.code.Transfers.{IsGivenInPart, SendsPart}
use Rattle.fax_tool.proofs.LineLemmas.{take_at}
use Rattle.fax_tool.proofs.StopLemmas.{NoText, stops_after, stops_at, stops_in_front, stops_more}
use Rattle.fax_tool.proofs.TextLemmas.{first_text}

-- the limit is so much above what is left of it, where there is one
abbrev pub IsLeftOf : Option ℕ → Option ℕ → ℕ → Type 0
IsLeftOf max remaining count = max ≡ option_map (λ n. n + count) remaining

-- so many of the lines are printed, the last part of their text is collected only, and so much of
-- the limit is left
pub record PrintsSome (tail now : List PrintedLine → End → Type 0) (given : ℕ) (max remaining : Option ℕ)
    (output written : Option (List ℕ)) (text : List ℕ) : Type 0 where
  pub lines : List PrintedLine
  pub end : End
  pub is : tail lines end
  pub same : (all : List PrintedLine) (end : End) → tail all end ↔ now all end
  pub within : given ≤ length lines
  pub limit : IsLeftOf max remaining given
  pub sent : List ℕ
  pub printed : Appends output written sent
  pub collected : texts_of (take given lines) ≡ sent ++ text

texts_of-push : (lines : List PrintedLine) (line : PrintedLine)
    → texts_of (lines ++ line ∷ []) ≡ texts_of lines ++ line.text
texts_of-push lines line =
    flat_map-append (λ line. line.text) lines (line ∷ []) ∙ ap (λ text. texts_of lines ++ text) (append-nil line.text)

one_less_left : (max remaining : Option ℕ) (count : ℕ) → IsLeftOf max remaining count → IfSome remaining (λ n. 0 < n)
    → IsLeftOf max (option_map (λ n. n - 1) remaining) (count + 1)
one_less_left max remaining count is some = grind arith

within_limit : (max remaining : Option ℕ) (count : ℕ) → IsLeftOf max remaining count
    → IfSome max (λ limit. count ≤ limit)
within_limit max remaining count is = grind arith

module _ {tail now : List PrintedLine → End → Type 0} (one : IsOne tail) {given : ℕ} {max remaining : Option ℕ}
    {output written : Option (List ℕ)} {text : List ℕ} (some : PrintsSome tail now given max remaining output written
    text) where
  -- these are the lines
  lines_are : (all : List PrintedLine) (end : End) → now all end → (all ≡ some.lines) × (end ≡ some.end)
  lines_are all end is = grind arith

  pub part_sent : {new_written : Option (List ℕ)} {new_text : List ℕ} → SendsPart written new_written text new_text
      → PrintsSome tail now given max remaining output new_written new_text
  part_sent {new_written} {new_text} sends = record {
    lines = some.lines;
    end = some.end;
    is = some.is;
    same = some.same;
    within = some.within;
    limit = some.limit;
    sent = some.sent ++ sends.part;
    printed = Appends-trans output written new_written some.sent sends.part some.printed sends.written;
    collected = rw (append_assoc, ← sends.parts) some.collected;
  }

  pub one_more : (new : List PrintedLine → End → Type 0) (new_given : ℕ) (new_left : Option ℕ) (line : PrintedLine)
      (new_text : List ℕ) → ((all : List PrintedLine) (end : End) → now all end ↔ new all end) → IsNumber now given line
      → new_given ≡ given + 1 → IfSome remaining (λ n. 0 < n)
      → new_left ≡ option_map (λ n. n - 1) remaining → new_text ≡ text ++ line.text
      → PrintsSome tail new new_given max new_left output written new_text
  one_more new new_given new_left line new_text same (all, end, is, there) more above less grown =
      let here : slice_get some.lines given ≡ Some line = rw (lines_are all end is).0 at there in
      let within = slice_get_within some.lines given line here in
      rw (more, less) (record {
        lines = some.lines;
        end = some.end;
        is = some.is;
        same = λ xs e. (λ h. (same xs e).0 ((some.same xs e).0 h), λ h. (some.same xs e).1 ((same xs e).1 h));
        within = omega (arith, within);
        limit = one_less_left max remaining given some.limit above;
        sent = some.sent;
        printed = some.printed;
        collected = rw (take_at some.lines given line here, texts_of-push, some.collected, append_assoc, grown);
      })

  module _ (origin : WalkStart) where
    -- where to continue after the lines so far
    abbrev pub next : List ℕ
    next = next_line (named false (next_after origin (take given some.lines)))

    first_lines : IsTextOfFirst tail max origin (some.sent ++ (text ++ next))
    first_lines = (
      some.lines,
      some.end,
      some.is,
      given,
      some.within,
      within_limit max remaining given some.limit,
      sym (first_text origin given some.lines some.end some.within
          ∙ rw (some.collected, append_assoc some.sent text _)),
    )

    -- a write of collected text was refused
    pub stopped_for_write : (new_written : Option (List ℕ)) (counts : Counts) (refusal : Refusal)
        → IsGivenInPart written new_written text counts refusal
        → StopsPrinting NoText (IsTextOfFirst tail max origin) refusal (output_after output new_written counts)
    stopped_for_write new_written counts refusal given_in_part =
        stops_after NoText NoText (λ (t : List ℕ). IsTextOfFirst tail max origin (some.sent ++ t))
        (IsTextOfFirst tail max origin) refusal output written new_written counts some.sent some.printed
        (λ printed none. absurd none) (λ t holds. holds)
        (stops_in_front (λ (t : List ℕ). IsTextOfFirst tail max origin (some.sent ++ t)) written new_written text next
        counts refusal first_lines given_in_part)

    -- memory was refused, and the lines so far and where to continue were to be written
    pub stopped_for_memory : (now_started : WalkStart) (cursor : Cursor) (new_written : Option (List ℕ)) (shown line :
        List ℕ)
        (counts : Counts) (refusal : Refusal) → now_started ≡ origin
        → ((from : WalkStart) × IsNextAfter now now_started given from × (cursor ≡ start_cursor from)) → shown ≡ text
        → line ≡ next_line (AtCursor cursor)
        → StopsWith (shown ++ line) refusal (output_after written new_written counts)
        → StopsPrinting NoText (IsTextOfFirst tail max origin) refusal (output_after output new_written counts)
    stopped_for_memory now_started cursor new_written shown line counts refusal same_started (from, after, at) same
        line_is
        stops =
        let are = lines_are after.lines after.end after.is in
        let from_is : from ≡ next_after origin (take given some.lines) = rw (← same_started, ← are.0) after.next_is in
        let next_is : line ≡ next = rw (line_is, at, from_is) in
        stops_after NoText NoText (λ (t : List ℕ). t ≡ shown ++ line) (IsTextOfFirst tail max origin) refusal output
        written new_written counts some.sent some.printed (λ printed none. absurd none)
        (λ t is. rw (is, same, next_is) first_lines) stops

-- where to continue at the cursor after so many lines
pub next_of_cursor : (tail : List PrintedLine → End → Type 0) (origin : WalkStart) (given : ℕ) (cursor : Cursor)
    (line : List ℕ)
    → ((next : WalkStart) × IsNextAfter tail origin given next × (cursor ≡ start_cursor next)) → line
    ≡ next_line (AtCursor cursor)
    → IsNextLine tail origin given false line
next_of_cursor tail origin given cursor line (next, after, at) line_is =
    (next, after, line_is ∙ ap (λ (c : Cursor). next_line (AtCursor c)) at)

module _ (tail : List PrintedLine → End → Type 0) (origin : WalkStart) (given : ℕ) (long : Bool) (old new : Option (List
    ℕ))
    (counts : Counts) where
  abbrev StopsNext : Refusal → Type 0
  StopsNext refusal =
      StopsPrinting (λ printed. IsNextLine tail origin given long printed.output) (IsNextLine tail origin given false)
      refusal (output_after old new counts)

  -- where to continue was given in part
  pub next_stopped : (answer : Result Unit Refusal) (bytes : List ℕ)
      → IsNextLine tail origin given long bytes ⊎ IsNextLine tail origin given false bytes
      → IfErr answer (IsGivenInPart old new bytes counts) → IfErr answer StopsNext
  next_stopped (Ok done) bytes is part = tt
  next_stopped (Err refusal) bytes (inl is) part =
      stops_at (λ printed. IsNextLine tail origin given long printed.output) (IsNextLine tail origin given false) old
      new
      bytes counts refusal is part
  next_stopped (Err refusal) bytes (inr is) part = grind arith

  -- memory was refused for the line with a long cursor
  pub next_unmade : (refusal : Refusal) (line : List ℕ) → IsNextLine tail origin given false line
      → StopsWith line refusal (output_after old new counts) → StopsNext refusal
  next_unmade refusal line is stops = grind arith

  abbrev StopsLast : Option End → Refusal → Type 0
  StopsLast ending refusal =
      StopsPrinting (λ printed. IsLastLine tail origin given long ending printed.output)
      (IsNextLine tail origin given false) refusal (output_after old new counts)

  -- the last line was given in part
  pub last_stopped : (ending : Option End) (answer : Result Unit Refusal) (bytes : List ℕ)
      → IsLastLine tail origin given long ending bytes
      → IfErr answer (IsGivenInPart old new bytes counts) → IfErr answer (StopsLast ending)
  last_stopped ending (Ok done) bytes is part = tt
  last_stopped ending (Err refusal) bytes is part =
      stops_at (λ printed. IsLastLine tail origin given long ending printed.output) (IsNextLine tail origin given false)
      old new bytes counts refusal is part

  -- the last line says where to continue
  pub next_is_last : (ending : Option End) (answer : Result Unit Refusal)
      → ((line : List ℕ) → IsNextLine tail origin given long line → IsLastLine tail origin given long ending line)
      → IfErr answer StopsNext → IfErr answer (StopsLast ending)
  next_is_last ending (Ok done) turns stops = tt
  next_is_last ending (Err refusal) turns stops =
      stops_more (λ printed. IsNextLine tail origin given long printed.output)
      (λ printed. IsLastLine tail origin given long ending printed.output)
      (IsNextLine tail origin given false) (IsNextLine tail origin given false) refusal (output_after old new counts)
      (λ printed is. turns printed.output is) (λ text is. is) stops
