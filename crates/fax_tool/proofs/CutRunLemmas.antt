-- Runs that continue where the one before them was cut.
use Rattle.std.proofs.Common.{◌≡◌, ℕ, zero, suc, List, [], ◌∷◌, ◌++◌, length, map, take, drop, refl, ap, sym, ◌∙◌}
use Rattle.std.proofs.Common.{append_assoc}
use Rattle.std.proofs.Common.{append-nil, true, false, Bool, take-append-drop, ◌≤◌, ◌^◌, arith}
use Rattle.std.proofs.Math.Seq.{take-length}
use Rattle.std.proofs.lemmas.Grind.{flat_map-append}
use Rattle.std.proofs.lemmas.List.{append_cancel_left, append_cancel_right, drop_all}
use Rattle.std.specs.Prelude.{Option, Some, None}
use Rattle.fax_walk.specs.declared.walk_start.WalkStart.{WalkStart}
use Rattle.fax_walk.specs.declared.walk_start.WalkStart.TheVariants.{AtCursor}
use Rattle.fax_walk.specs.declared.end.End.{End}
use Rattle.fax_walk.specs.Pages.{LongCursorValue}
use Rattle.fax_walk.specs.laws.Cursors.{CursorsAreShort, PlacesAreShort, TextsNameOne}
use Rattle.fax_walk.specs.laws.Tails.{BeginningsHaveOneTail, IsReached, LongTailsGoOn, PlacesAreReached, TailsGoOn}
use Rattle.fax_walk.specs.Items.{RowItem as Item, IsTailFrom, start_text, cursor_after, long_after}
use Rattle.fax_tool.specs.Run.{AreRowLines}
use Rattle.fax_tool.proofs.BeginLemmas.{started_at, one_started}
use Rattle.fax_tool.specs.Text.{PrintedLine, Printed, named, next_after, next_line, text_of, end_text, is_cut}
use Rattle.fax_tool.specs.Text.{line_of_row, texts_of, up_to}
use Rattle.fax_tool.specs.laws.Runs.{AreAsOneRun, AreRunsOfRows, CutRunsAreReadOn, IsStartInRange, IsReadAfter}
use Rattle.fax_tool.specs.laws.Runs.{IsRunOfRows}
use Rattle.fax_tool.specs.laws.Runs.{MayBegin, RunsGoOn}
use Rattle.fax_tool.proofs.LineLemmas.{begins_after, next_after-append, one_rows}
use Rattle.fax_tool.proofs.TextLemmas.{all_taken}

-- what is written of these lines and their end, or of lines and where to continue
abbrev ended_text : Bool → WalkStart → List PrintedLine → Option End → Printed
ended_text long origin lines end =
    let last = end_text end (named long (next_after origin lines)) in
    record last { output = texts_of lines ++ last.output }

-- all lines and their end; the first ones, and where to continue; the last line of an end
abbrev whole_text : Bool → WalkStart → List PrintedLine → End → Printed
whole_text long origin lines end = ended_text long origin lines (Some end)

abbrev first_text : Bool → WalkStart → List PrintedLine → Printed
first_text long origin lines = ended_text long origin lines None

abbrev last_line : End → WalkStart → List ℕ
last_line end next = (end_text (Some end) next).output

-- what is named of what was named is named
named_again : (long : Bool) (origin : WalkStart) → named long (named long origin) ≡ named long origin
named_again long origin = grind arith

named_after : (long : Bool) (origin : WalkStart) (lines : List PrintedLine)
    → named long (next_after (named long origin) lines)
    ≡ named long (next_after origin lines)
named_after long origin [] = named_again long origin
named_after long origin (line ∷ lines) = refl

-- the lines that a limit leaves for a later run
abbrev lines_left : Option ℕ → List PrintedLine → List PrintedLine
lines_left None lines = []
lines_left (Some limit) lines = drop limit lines

parts : (max : Option ℕ) (lines : List PrintedLine) → up_to max lines ++ lines_left max lines ≡ lines
parts max lines = grind (arith, append-nil, take-append-drop)

not_cut : (long : Bool) (max : Option ℕ) (origin : WalkStart) (lines : List PrintedLine) (end : End)
    → is_cut max lines ≡ false → text_of long max origin lines end ≡ whole_text long origin lines end
not_cut long max origin lines end whole = grind (arith, all_taken)

-- one run is a beginning of a run without a limit
alone : (lines : List PrintedLine) (max : Option ℕ) (rows : List ℕ) (last whole : Printed) (cut : Bool)
    → rows ≡ texts_of (up_to max lines) → (cut ≡ false → last ≡ whole)
    → AreAsOneRun [] rows last cut (texts_of lines) whole
alone lines max rows last whole cut rows_are all = record {
  more = texts_of (lines_left max lines);
  beginning = rw (rows_are, ← flat_map-append, parts max lines);
  output = λ no. rw (all no);
  error = λ no. rw (all no);
  status = λ no. rw (all no);
}

-- runs after these lines are with them as one run
as_one_after : (long : Bool) (origin : WalkStart) (xs ys : List PrintedLine) (end : End) (first others rows : List ℕ)
    (last : Printed) (cut : Bool) → first ≡ texts_of xs
    → AreAsOneRun others rows last cut (texts_of ys) (whole_text long (named long (next_after origin xs)) ys end)
    → AreAsOneRun (first ++ others) rows last cut (texts_of (xs ++ ys)) (whole_text long origin (xs ++ ys) end)
as_one_after long origin xs ys end first others rows last cut first_is all =
    let next : named long (next_after (named long (next_after origin xs)) ys)
    ≡ named long (next_after origin (xs ++ ys)) = rw (named_after, next_after-append) in
    record {
      more = all.more;
      beginning = rw (flat_map-append, first_is, all.beginning) (simp append_assoc);
      output = λ no. rw (append_assoc, all.output no, next, flat_map-append, first_is, append_assoc);
      error = λ no. rw (← next) (all.error no);
      status = λ no. rw (← next) (all.status no);
    }

-- the text of `next` says the text that stands in it
same_text : (rows : List ℕ) (origin next : WalkStart) → rows ++ next_line origin ≡ rows ++ next_line next
    → start_text origin ≡ start_text next
same_text rows origin next e = grind (arith, append_cancel_left, append_cancel_right)

same_last : (rows : List ℕ) (end : End) (origin next : WalkStart) → rows ++ last_line end origin ≡ rows
    ++ next_line next
    → start_text origin ≡ start_text next
same_last rows end origin next e = grind (arith, append_cancel_left, same_text)

-- what stands after `next` after these lines is the text of what continues after them
next_told : (long : Bool) (max : Option ℕ) (origin : WalkStart) (lines : List PrintedLine) (end : End) (next :
    WalkStart)
    → (text_of long max origin lines end).output ≡ texts_of (up_to max lines) ++ next_line next
    → start_text (named long (next_after origin (up_to max lines))) ≡ start_text next
next_told long max origin lines end next e = grind (arith, same_last, same_text)

module _ (tails : BeginningsHaveOneTail) (go_on : TailsGoOn) (long_go_on : LongTailsGoOn)
    (places : PlacesAreReached) (short : CursorsAreShort) (long_short : PlacesAreShort) (names : TextsNameOne)
    (file : List ℕ) (limit_kept : length file ≤ 2 ^ 32) where
  reached : (long : Bool) (origin : WalkStart) → MayBegin file long origin → IsReached file origin
  reached long origin may = grind arith

  is_started : (long : Bool) (origin : WalkStart) → MayBegin file long origin → IsStartInRange origin
  is_started long origin may = grind arith

  named_started : (long : Bool) (origin : WalkStart) → MayBegin file long origin → named long origin ≡ origin
  named_started long origin may = grind arith

  -- what a run begins with that continues after some items
  record GoesOn (long : Bool) (next : WalkStart) (items : List Item) (end : End) : Type 0 where
    tail : IsTailFrom file next items end
    may : MayBegin file long next

  after_item : (long : Bool) (origin : WalkStart) (item : Item) (items : List Item) (end : End)
      → MayBegin file long origin
      → IsTailFrom file origin (item ∷ items) end
      → GoesOn long (named long (started_at (long_after item) (cursor_after item))) items end
  after_item false origin item items end may tail =
      let at_cursor : IsTailFrom file (AtCursor (cursor_after item)) items end =
      go_on file origin (item ∷ items) end 0 item (reached false origin may) tail refl in
      record {
        tail = rw (begins_after item) at_cursor;
        may = rw (begins_after item)
            (short file origin (item ∷ items) end 0 item limit_kept (reached false origin may) tail refl);
      }
  after_item true origin item items end may tail = by_place (long_after item) refl
    where
      by_place : (place : Option LongCursorValue) → long_after item ≡ place
          → GoesOn true (started_at place (cursor_after item)) items end
      by_place None is = record {
        tail = go_on file origin (item ∷ items) end 0 item (reached true origin may) tail refl;
        may = short file origin (item ∷ items) end 0 item limit_kept (reached true origin may) tail refl;
      }
      by_place (Some place) is = record {
        tail = long_go_on file origin (item ∷ items) end 0 item place tail refl is;
        may = (
          long_short file origin (item ∷ items) end 0 item place limit_kept tail refl is,
          places file origin (item ∷ items) end 0 item place (reached true origin may) tail refl is,
        );
      }

  -- the lines after some of a run's lines
  record LinesGoOn (long : Bool) (next : WalkStart) (lines : List PrintedLine) (end : End) : Type 0 where
    are : AreRowLines file next lines end
    may : MayBegin file long next

  after_line : (long : Bool) (origin : WalkStart) (line : PrintedLine) (lines : List PrintedLine) (end : End)
      → MayBegin file long origin → AreRowLines file origin (line ∷ lines) end
      → LinesGoOn long (named long line.next) lines end
  after_line long origin line lines end may are = by_items are.items are.lines_are are.tail
    where
      by_items : (items : List Item) → line ∷ lines ≡ map line_of_row items → IsTailFrom file origin items end
          → LinesGoOn long (named long line.next) lines end
      by_items [] lines_are tail = absurd cc
      by_items (item ∷ items) lines_are tail =
          let is : line ≡ line_of_row item = cc in
          let goes = after_item long origin item items end may tail in
          rw is (record { are = record { items = items; tail = goes.tail; lines_are = cc }; may = goes.may })

  after_lines : (long : Bool) (origin : WalkStart) (n : ℕ) (lines : List PrintedLine) (end : End)
      → MayBegin file long origin
      → AreRowLines file origin lines end
      → LinesGoOn long (named long (next_after origin (take n lines))) (drop n lines) end
  after_lines long origin zero lines end may are = rw (named_started long origin may) (record { are = are; may = may })
  after_lines long origin (suc n) [] end may are = rw (named_started long origin may) (record { are = are; may = may })
  after_lines long origin (suc n) (line ∷ lines) end may are =
      let next = after_line long origin line lines end may are in
      rw (← named_after long line.next (take n lines))
      (after_lines long (named long line.next) n lines end next.may next.are)

  after_limit : (long : Bool) (origin : WalkStart) (max : Option ℕ) (lines : List PrintedLine) (end : End)
      → MayBegin file long origin → AreRowLines file origin lines end
      → LinesGoOn long (named long (next_after origin (up_to max lines))) (lines_left max lines) end
  after_limit long origin (Some limit) lines end may are = after_lines long origin limit lines end may are
  after_limit long origin None lines end may are =
      let all = after_lines long origin (length lines) lines end may are in
      rw (take-length lines, drop_all (length lines) lines (omega arith)) at all

  same_lines : (origin : WalkStart) (lines others : List PrintedLine) (end other : End)
      → AreRowLines file origin lines end
      → AreRowLines file origin others other → (others ≡ lines) × (other ≡ end)
  same_lines origin lines others end other are again =
      let one = (one_rows file tails origin).one in
      let (first, ends) = one lines end are in
      let (second, other_ends) = one others other again in (second ∙ sym first, other_ends ∙ sym ends)

  all_runs : (limits : List (Option ℕ)) (long : Bool) (origin : WalkStart) (max : Option ℕ) (before rows : List ℕ)
      (last : Printed) (cut : Bool) (lines : List PrintedLine) (end : End) → MayBegin file long origin
      → AreRowLines file origin lines end
      → AreRunsOfRows file long origin limits max before rows last cut
      → AreAsOneRun before rows last cut (texts_of lines) (whole_text long origin lines end)
  all_runs [] long origin max before rows last cut lines end may are (run, before_is) =
      let same = same_lines origin lines run.lines end run.end are run.are in
      let text = rw (same.0, same.1) at run.text_is in
      let cut_is : cut ≡ is_cut max lines = rw same.0 at run.cut_is in
      rw before_is (alone lines max rows last (whole_text long origin lines end) cut (rw same.0 at run.rows_are)
      (λ no. text ∙ not_cut long max origin lines end (sym cut_is ∙ no)))
  all_runs (limit ∷ limits) long origin max before rows last cut lines end may are
      (text, first, was_cut, next, others, run, final_end, runs, before_is) =
      let same = same_lines origin lines run.lines end run.end are run.are in
      let first_is : first ≡ texts_of (up_to limit lines) = rw same.0 at run.rows_are in
      let goes = after_limit long origin limit lines end may are in
      let text_is : text ≡ text_of long limit origin lines end = rw (same.0, same.1) at run.text_is in
      let output : (text_of long limit origin lines end).output ≡ texts_of (up_to limit lines) ++ next_line next =
      ap (λ (printed : Printed). printed.output) (sym text_is) ∙ (rw first_is at final_end.is) in
      let next_is : next ≡ named long (next_after origin (up_to limit lines)) =
      sym (one_started names (named long (next_after origin (up_to limit lines))) next
      (is_started long (named long (next_after origin (up_to limit lines))) goes.may) final_end.limits
      (next_told long limit origin lines end next output)) in
      let later = all_runs limits long (named long (next_after origin (up_to limit lines))) max others rows last cut
      (lines_left limit lines) end goes.may goes.are (rw next_is at runs) in
      let as_one = as_one_after long origin (up_to limit lines) (lines_left limit lines) end first others rows last cut
      first_is later in
      rw before_is (rw (parts limit lines) at as_one)

  cut_next : (long : Bool) (origin : WalkStart) (max : Option ℕ) (text : Printed) (rows : List ℕ)
      → MayBegin file long origin
      → IsRunOfRows file long origin max text rows true → (next : WalkStart) × IsReadAfter rows text.output next
  cut_next long origin max text rows may run =
      let next = named long (next_after origin (up_to max run.lines)) in
      let goes = after_limit long origin max run.lines run.end may run.are in
      let text_is : text.output ≡ rows ++ next_line next =
      ap (λ (printed : Printed). printed.output) (run.text_is ∙ cut_text max run.cut_is)
      ∙ ap (λ (l : List ℕ). l ++ next_line next) (sym run.rows_are) in
      (next, record { limits = is_started long next goes.may; is = text_is })
    where
      cut_text : (max : Option ℕ) → true ≡ is_cut max run.lines
          → text_of long max origin run.lines run.end ≡ first_text long origin (up_to max run.lines)
      cut_text max is = grind arith

pub cut_runs_are_read_on : BeginningsHaveOneTail → TailsGoOn → LongTailsGoOn → PlacesAreReached → CursorsAreShort
    → PlacesAreShort → TextsNameOne → CutRunsAreReadOn
cut_runs_are_read_on tails go_on long_go_on places short long_short names file long origin max text rows within may run
    =
    cut_next tails go_on long_go_on places short long_short names file (omega arith) long origin max text rows may run

pub runs_go_on : BeginningsHaveOneTail → TailsGoOn → LongTailsGoOn → PlacesAreReached → CursorsAreShort
    → PlacesAreShort → TextsNameOne → RunsGoOn
runs_go_on tails go_on long_go_on places short long_short names file long origin limits max before rows last cut whole
    lines was_cut within may runs run =
    rw (run.text_is, run.rows_are)
    (all_runs tails go_on long_go_on places short long_short names file (omega arith) limits long origin max before rows
    last cut run.lines run.end may run.are runs)
