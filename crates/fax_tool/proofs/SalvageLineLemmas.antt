-- Lines of what is left of a file that are printed, one after another.
use Rattle.std.proofs.Common.{◌≡◌, ℕ, ◌+◌, ◌≤◌, ◌↔◌, List, [], ◌∷◌, ◌++◌, length, take, ap, sym, ◌∙◌, append_assoc}
use Rattle.std.proofs.Common.{append-nil, arith, codes, inr, map, refl, true, false, Option}
use Rattle.std.proofs.Common.{Some, None, Result, Ok, Err}
use Rattle.std.proofs.Math.Seq.{take-length}
use Rattle.std.proofs.lemmas.Grind.{flat_map-append}
use Rattle.std.proofs.lemmas.Option.{slice_get_within, slice_get-map}
use Rattle.std.proofs.lemmas.List.{length-map}
use Rattle.std.specs.Prelude.{IfErr, IfSome, option_map, slice_get, unwrap_or}
use Rattle.std.specs.Io.KnownBytes.{Appends}
use Rattle.std.proofs.KnownBytes.{Appends-trans}
use Rattle.fax_tool.specs.declared.refusal.Refusal.{Refusal}
use Rattle.fax_tool.specs.declared.refusal.Refusal.TheVariants.{Memory}
use Rattle.fax_tool.specs.Run.{Counts, HasWorked, IsRead, IsTextAfterMemory, IsTextOf, Output}
use Rattle.fax_walk.specs.declared.salvage.SalvageItem.{SalvageItem}
use Rattle.fax_walk.specs.laws.Salvaged.{IsSalvagedOneWay}
use Rattle.fax_walk.specs.views.SalvageItems.{YieldsRemaining, IsNextLeft, SalvageView, item_of}
use Rattle.fax_tool.specs.SalvageText.{AreLinesLeft, IsSalvageFront, IsSalvageText, line_left}
use Rattle.fax_tool.specs.Streams.{input_after, output_after}
use Rattle.fax_tool.specs.Text.{AtCursor, End, Printed, end_text}
use Rattle.fax_tool.specs.code.Outcome.{IsDone, IsStopped, StopsPrinting, end_line}
use Rattle.fax_walk.specs.Items.{AreItems, RowItem}
use Rattle.fax_walk.specs.Pages.{start}
use Rattle.fax_tool.specs.declared.args.Command.TheVariants.{Salvage}
use Rattle.fax_tool.specs.code.Salvaging.{IsFrontOf, IsLinePut, IsOneList, texts_of}
use Rattle.fax_tool.specs.code.Transfers.{IsGivenInPart, SendsPart}
use Rattle.fax_tool.proofs.LineLemmas.{take_at}
use Rattle.fax_tool.proofs.CommandLemmas.{command_stops, text_done, text_stopped}
use Rattle.fax_tool.proofs.StopLemmas.{NoText, stops_after, stops_in_part, stops_more}
use Rattle.fax_tool.proofs.TextLemmas.{end_is}
use Rattle.fax_tool.proofs.TransferLemmas.{second_given, second_given_err}

-- so many of the lines are printed, and the last part of their text is collected only
pub record PrintsSome (are now : List (List ℕ) → Type 0) (given : ℕ) (output written : Option (List ℕ))
    (text : List ℕ) : Type 0 where
  pub lines : List (List ℕ)
  pub is : are lines
  pub same : (all : List (List ℕ)) → are all ↔ now all
  pub within : given ≤ length lines
  pub sent : List ℕ
  pub printed : Appends output written sent
  pub collected : texts_of (take given lines) ≡ sent ++ text

texts_of-push : (lines : List (List ℕ)) (line : List ℕ) → texts_of (lines ++ line ∷ []) ≡ texts_of lines ++ line
texts_of-push lines line =
    flat_map-append (λ (l : List ℕ). l) lines (line ∷ []) ∙ ap (λ text. texts_of lines ++ text) (append-nil line)

module _ {are now : List (List ℕ) → Type 0} (one : IsOneList are) {given : ℕ} {output written : Option (List ℕ)}
    {text : List ℕ} (some : PrintsSome are now given output written text) where
  -- these are the lines
  lines_are : (all : List (List ℕ)) → now all → all ≡ some.lines
  lines_are all is = one.one all ((some.same all).1 is) ∙ sym (one.one some.lines some.is)

  pub part_sent : {new_written : Option (List ℕ)} {new_text : List ℕ} → SendsPart written new_written text new_text
      → PrintsSome are now given output new_written new_text
  part_sent {new_written} {new_text} sends = record {
    lines = some.lines;
    is = some.is;
    same = some.same;
    within = some.within;
    sent = some.sent ++ sends.part;
    printed = Appends-trans output written new_written some.sent sends.part some.printed sends.written;
    collected = rw (append_assoc, ← sends.parts) some.collected;
  }

  pub one_more : (new : List (List ℕ) → Type 0) (new_given : ℕ) (all : List (List ℕ)) (line new_text : List ℕ)
      → ((all : List (List ℕ)) → now all ↔ new all) → now all → slice_get all given ≡ Some line
      → new_given ≡ given + 1 → new_text ≡ text ++ line
      → PrintsSome are new new_given output written new_text
  one_more new new_given all line new_text same is there more grown =
      let here : slice_get some.lines given ≡ Some line = rw (lines_are all is) at there in
      let within = slice_get_within some.lines given line here in
      rw more (record {
        lines = some.lines;
        is = some.is;
        same = λ xs. (λ h. (same xs).0 ((some.same xs).0 h), λ h. (some.same xs).1 ((same xs).1 h));
        within = omega (arith, within);
        sent = some.sent;
        printed = some.printed;
        collected = rw (take_at some.lines given line here, texts_of-push, some.collected, append_assoc, grown);
      })

  front : IsFrontOf are (some.sent ++ text)
  front = (some.lines, some.is, given, some.within, sym some.collected)

  -- a write of collected text was refused
  pub stopped_for_write : (new_written : Option (List ℕ)) (counts : Counts) (refusal : Refusal)
      → IsGivenInPart written new_written text counts refusal
      → StopsPrinting NoText (IsFrontOf are) refusal (output_after output new_written counts)
  stopped_for_write new_written counts refusal given_in_part =
      stops_after NoText NoText (λ (t : List ℕ). IsFrontOf are (some.sent ++ t)) (IsFrontOf are) refusal output written
      new_written counts some.sent some.printed (λ printed none. absurd none) (λ t holds. holds)
      (stops_in_part NoText (λ (t : List ℕ). IsFrontOf are (some.sent ++ t)) written new_written text counts refusal
      (inr front) given_in_part)

  pub stopped_if_refused : (new_written : Option (List ℕ)) (counts : Counts) (answer : Result Unit Refusal)
      → IfErr answer (IsGivenInPart written new_written text counts)
      → IfErr answer (λ refusal. StopsPrinting NoText (IsFrontOf are) refusal (output_after output new_written counts))
  stopped_if_refused new_written counts (Ok done) given_in_part = tt
  stopped_if_refused new_written counts (Err refusal) given_in_part =
      stopped_for_write new_written counts refusal given_in_part

  -- memory was refused, and the lines so far are written
  pub stopped_for_memory : (new_written : Option (List ℕ)) (counts : Counts) → HasWorked counts
      → Appends written new_written text
      → StopsPrinting NoText (IsFrontOf are) Memory (output_after output new_written counts)
  stopped_for_memory new_written counts worked moved = record {
    reason = worked;
    leaves = (some.sent ++ text, front, Appends-trans output written new_written some.sent text some.printed moved);
  }

module _ (bytes : Option (List ℕ)) (taken : ℕ) (counts : Counts) (file : List ℕ)
    (same : IfSome bytes (λ b. file ≡ b)) (read : IsRead (input_after bytes taken counts)) where
  -- the lines were refused
  pub lines_stopped : (refusal : Refusal) (output : Output)
      → StopsPrinting NoText (IsFrontOf (AreLinesLeft file)) refusal output
      → IsStopped Salvage refusal (input_after bytes taken counts) output
  lines_stopped refusal output stops =
      command_stops Salvage bytes taken counts output file same read refusal
      (stops_more NoText (IsTextOf Salvage file) (IsFrontOf (AreLinesLeft file)) (IsTextAfterMemory Salvage file)
      refusal output (λ printed none. absurd none) (λ text is. is) stops)

  module _ (lines : List (List ℕ)) (are : AreLinesLeft file lines) (old mid : Option (List ℕ))
      (sent : Appends old mid (texts_of lines)) where
    -- memory was refused for the end of the rows
    pub end_unread : (given : Counts) → HasWorked given
        → IsStopped Salvage Memory (input_after bytes taken counts) (output_after old mid given)
    end_unread given worked =
        let front = ap texts_of (sym (take-length lines)) in
        command_stops Salvage bytes taken counts (output_after old mid given) file same read Memory (record {
          reason = worked;
          leaves = (texts_of lines, (lines, are, length lines, omega arith, front), sent);
        })

    module _ (rows : List RowItem) (end : End) (tail : AreItems file rows end) (new : Option (List ℕ))
        (given : Counts) where
      -- what is written
      abbrev whole_text : Printed
      whole_text = record (end_text (Some end) (AtCursor start)) { output = texts_of lines ++ codes "end\n" }

      is_text : IsSalvageText file whole_text
      is_text = record { lines = lines; are = are; rows = rows; end = end; ended = tail; is = refl }

      pub end_stopped : (refusal : Refusal) → IsGivenInPart mid new (codes "end\n") given refusal
          → IsStopped Salvage refusal (input_after bytes taken counts) (output_after old new given)
      end_stopped refusal part =
          text_stopped Salvage bytes taken counts file old new given whole_text refusal same read is_text
          (second_given_err old mid new (texts_of lines) (codes "end\n") given (Err refusal) sent part)

      pub all_salvaged : Appends mid new (codes "end\n") → HasWorked given
          → IsDone Salvage (input_after bytes taken counts) (output_after old new given) (end_line (Some end))
      all_salvaged moved worked =
          text_done Salvage bytes taken counts file old new given whole_text (end_line (Some end)) same read is_text
          (second_given old mid new (texts_of lines) (codes "end\n") sent moved) worked (end_is end (AtCursor start)).0
          (end_is end (AtCursor start)).1

-- ---- the reader's items

-- the lines of a file are one list
pub one_lines_left : (file : List ℕ) → IsSalvagedOneWay file → IsOneList (AreLinesLeft file)
one_lines_left file way = record {
  lines = map line_left way.items;
  is = (way.items, way.are, refl);
  one = λ others are. are.2 ∙ ap (map line_left) (way.one are.0 are.1);
}

-- none of them is the beginning of them
pub no_line : ((file : List ℕ) → IsSalvagedOneWay file) → (file : List ℕ) → IsSalvageFront file []
no_line ways file =
    let way = ways file in (map line_left way.items, (way.items, way.are, refl), 0, omega arith, refl)

module _ (old new : SalvageView) (text : List ℕ) (way : IsSalvagedOneWay old.file) where
  -- all lines were collected
  pub none_left : IsNextLeft old (Ok None) new
      → IsLinePut (AreLinesLeft old.file) old.yielded text (Ok false) new.yielded text
  none_left next = (
    map line_left way.items,
    (way.items, way.are, refl),
    sym (length-map way.items line_left ∙ next.0 way.items way.are),
    refl,
  )

  -- the line of an item is collected
  pub item_put : (item : SalvageItem) (new_text : List ℕ) → YieldsRemaining old item new
      → new_text ≡ text ++ line_left (item_of item (unwrap_or new.last []))
      → IsLinePut (AreLinesLeft old.file) old.yielded text (Ok true) new.yielded new_text
  item_put item new_text hands grown = (
    map line_left way.items,
    line_left (item_of item (unwrap_or new.last [])),
    (way.items, way.are, refl),
    slice_get-map line_left way.items old.yielded ∙ ap (option_map line_left) (hands.item_is way.items way.are),
    hands.next,
    grown,
  )
