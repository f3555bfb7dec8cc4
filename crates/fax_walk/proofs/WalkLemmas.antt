-- A walk that continues, or ends.
use Rattle.std.proofs.lemmas.Grind.{common_steps}
use Rattle.std.proofs.Common.{◌≡◌, ℕ, ◌+◌, ◌<◌, ◌⊎◌, inl, inr, List, [], ◌∷◌, ◌++◌, length, drop, Option, Some}
use Rattle.std.proofs.Common.{None, Result, Ok, Err, ◌≤◌, refl, sym, ap, ◌∙◌, arith, length-append, length-drop}
use Rattle.std.proofs.Common.{append_assoc, append-nil}
use Rattle.std.proofs.lemmas.Bool.{cases_lt}
use Rattle.std.specs.Prelude.{MatchResult, slice_get}
use Rattle.fax_bits.specs.laws.Codes.{AreBitsByIndex}
use Rattle.fax_files.specs.laws.TiffFiles.{FilesHaveOneChain, FormsAreWhole}
use Rattle.fax_walk.specs.declared.walk_start.WalkStart.{WalkStart}
use Rattle.fax_walk.specs.declared.cursor.Cursor.{Cursor}
use Rattle.fax_walk.specs.declared.end.End.{End}
use Rattle.fax_walk.specs.declared.walk_start.WalkStart.TheVariants.{AtCursor}
use Rattle.fax_walk.specs.declared.opening.OpenFault.{OpenFault}
use Rattle.fax_walk.specs.declared.opening.OpenFault.TheVariants.{Ended, Memory}
use Rattle.fax_walk.specs.Pages.{AreFrom, FilePage, read_page, LongCursorValue}
use Rattle.fax_walk.specs.views.InOrder.{EndsAfter, HasEndedAs, HasNoOtherEnd}
use Rattle.fax_walk.specs.laws.InOrder.{LeadTo}
use Rattle.fax_walk.specs.views.Walk.{AreRead, dropped, EndsBefore, EntersFirst, EntersPage, HasPage, IsCursorOf}
use Rattle.fax_walk.specs.views.Walk.{IsItemNumber, IsLongOf, WalkView}
use Rattle.fax_walk.specs.laws.RowSource.{IsLeft}
use Rattle.fax_walk.specs.Items.{StartsOnPage, IsRow, IsTailFrom, RowItem, RowPosition, start_cursor, cursor_after}
use Rattle.fax_walk.specs.Items.{first_at}
use Rattle.fax_walk.specs.Items.{long_at, place_after}
use Rattle.fax_walk.specs.code.RowPlaces.{cursor_at}
use Rattle.fax_walk.specs.laws.Tails.{BeginningsHaveOneTail}
use Rattle.fax_walk.specs.code.Stages.{GivesNone, GivesRow, IsOpen, PageState, place_of, row_of, skipped}
use Rattle.fax_walk.specs.code.Walk.{IsAdvance, IsUpcomingOn, IsEntered, answer_of, GoesOnFrom, HasCome, HasEndedOn}
use Rattle.fax_walk.specs.code.Walk.{HasReadTo, IsAfterItem}
use Rattle.fax_walk.specs.code.Walk.{IsReadNext, IsShown, IsSound, StandsAt, cursor_on}
use Rattle.fax_walk.proofs.LeftLemmas.{left_after, left_ended}
use Rattle.fax_walk.proofs.InOrderLemmas.{IsListed, joined, leads_both, number_dropped}
use Rattle.fax_walk.proofs.RowLawLemmas.{LinesAreRead, cases_after, rows_listed}

module _ (by_place : AreBitsByIndex) (lines_read : LinesAreRead) (chains : FilesHaveOneChain) (forms : FormsAreWhole)
    (file : List ℕ)
    (origin : WalkStart) (yielded : ℕ) (cursor : Cursor) where
  listed : (at : RowPosition) → IsListed (IsRow file) at
  listed at = rows_listed by_place lines_read chains forms file at

  -- the next row that is returned is read
  module _ (old new : PageState) (reads : HasReadTo file origin yielded cursor old) (gives : GivesRow old new) where
    abbrev come : HasCome file origin yielded old.read (skipped old) (place_of old)
    come = reads.come

    abbrev all : List RowItem
    all = come.items ++ gives.items

    lead : LeadTo (IsRow file) come.first all (place_of new)
    lead = grind (arith, leads_both)

    front_count : length (come.items ++ gives.front) ≡ come.dropped + yielded
    front_count = length-append come.items gives.front ∙ omega (arith, come.count, come.total, gives.count)

    all_is : all ≡ (come.items ++ gives.front) ++ gives.item ∷ []
    all_is = grind (arith, append_assoc)

    number : IsItemNumber file origin yielded gives.item
    number =
        let more = listed (place_of new) in
        let whole = all ++ more.items in
        let is : AreFrom (IsRow file) come.first whole more.end =
        joined (IsRow file) come.first (place_of new) all more.items more.end lead more.is in
        let parts : whole ≡ (come.items ++ gives.front) ++ gives.item ∷ more.items =
        ap (λ (l : List RowItem). l ++ more.items) all_is ∙ append_assoc (come.items ++ gives.front) (gives.item ∷ [])
        more.items in (
          drop come.dropped whole,
          more.end,
          (Ok (come.first, come.dropped), come.begins, (whole, is, refl)),
          ap (λ (l : List RowItem). slice_get (drop come.dropped l) yielded) parts
              ∙ number_dropped come.dropped yielded (come.items ++ gives.front) gives.item more.items front_count,
        )

    none_left : skipped new ≡ 0
    none_left = omega (arith, gives.next_row, gives.same.first)

    all_count : length all ≡ new.read
    all_count = grind (arith, length-append)

    last : IsAfterItem file origin (yielded + 1) (cursor_on new) (place_of new)
    last = grind (arith, number)

    pub gone_on : GoesOnFrom file origin (yielded + 1) (cursor_on new) (Some new)
        × IsShown file origin (yielded + 1) (cursor_on new) new
    unfolding last
    gone_on = (
      (
        gives.still_open,
        record {
          file_is = grind arith;
          come = record {
            first = come.first;
            dropped = come.dropped;
            begins = come.begins;
            items = all;
            lead = lead;
            count = all_count;
            total = omega (arith, come.total, gives.read, none_left);
            none_left = λ some. none_left;
          };
          stands = inr last;
          named = λ some. absurd (omega (arith, some, none_left));
        },
      ),
      record {
        last = last;
        pels = grind arith;
        form = grind arith;
        few = omega (arith, come.total, gives.read, gives.few);
      },
    )

-- the rows end before the next one that is returned
module _ (file : List ℕ) (origin : WalkStart) (yielded : ℕ) (cursor : Cursor) (old new : PageState) (end : End)
    (reads : HasReadTo file origin yielded cursor old) (none : GivesNone old end new) where
  abbrev come_so_far : HasCome file origin yielded old.read (skipped old) (place_of old)
  come_so_far = reads.come

  abbrev items : List RowItem
  items = none.items

  remaining : skipped new + length items ≡ skipped old
  remaining = omega (arith, none.skips.rows, none.skips.few, none.skips.same.first)

  ended_lead : LeadTo (IsRow file) come_so_far.first (come_so_far.items ++ items) (place_of new)
  ended_lead = grind (arith, leads_both)

  no_items : (is : List RowItem) → length is ≡ 0 → LeadTo (IsRow old.directory.file) (place_of old) is (place_of new)
      → place_of new ≡
      place_of old
  no_items is count lead = grind (arith, common_steps)

  still_stands : StandsAt file origin yielded cursor (place_of old) → StandsAt file origin yielded cursor (place_of new)
  still_stands h = grind (arith, no_items)

  pub ended_on : HasEndedOn file origin yielded cursor (Some new) end
  ended_on = grind (arith, ended_lead, length-append, remaining, still_stands, cases_lt)

-- what a walk that has ended says
module _ (file : List ℕ) (origin : WalkStart) (yielded : ℕ) (cursor : Cursor) where
  pub ends_after : (page : Option PageState) (end : End) → HasEndedOn file origin yielded cursor page end
      → EndsAfter (IsTailFrom file origin) yielded end
  ends_after None end (none, at_is, no_rows) = ([], no_rows.tail, sym none)
  ends_after (Some page) end (reads, stop, before) =
      let come = reads.come in
      let is : AreFrom (IsRow file) come.first (come.items ++ []) end =
      joined (IsRow file) come.first (place_of page) come.items [] end come.lead stop in
      let all = ap (λ (l : List RowItem). length l) (append-nil come.items) in (
        drop come.dropped (come.items ++ []),
        (Ok (come.first, come.dropped), come.begins, (come.items ++ [], is, refl)),
        grind (arith, length-drop come.dropped (come.items ++ []), all, come.count, come.total, come.none_left),
      )

-- what a walk's contracts say of it
module _ (walk : WalkView) (cursor : Cursor) (page : Option PageState) where
  abbrev file : List ℕ
  file = walk.file

  abbrev origin : WalkStart
  origin = walk.origin

  abbrev Sound : Option End → Type 0
  Sound final_end = IsSound file origin walk.yielded cursor page final_end

  ended : (final_end : Option End) (end : End) → final_end ≡ Some end → Sound final_end
      → HasEndedOn file origin walk.yielded cursor page end
  ended final_end end is sound = rw is at sound

  -- where the cursor stands
  stands_on : (page : Option PageState) (final_end : Option End)
      → IsSound file origin walk.yielded cursor page final_end
      → ((walk.yielded ≡ 0) × (cursor ≡ start_cursor origin))
      ⊎ ((at : PageState) × (page ≡ Some at) × IsAfterItem file origin walk.yielded cursor (place_of at))
  stands_on page final_end sound = grind arith

  pub cursor_is : Sound walk.final_end → IsCursorOf walk cursor
  cursor_is sound = grind arith

  pub long_is : Sound walk.final_end → 0 < walk.yielded → (at : PageState) → page ≡ Some at
      → (place : Option LongCursorValue)
      → place ≡ (let to = place_of at in long_at (cursor_at to) to.inner) → IsLongOf walk place
  long_is sound some at page_is place place_is = grind (arith, stands_on, cases_after)

  -- how many rows were read
  read_on : (at : PageState) (final_end : Option End) → IsSound file origin walk.yielded cursor (Some at) final_end
      → HasReadTo file origin walk.yielded cursor at
      × ((end : End) → final_end ≡ Some end → (skipped at ≡ 0) ⊎ EndsBefore end (start_cursor origin))
  read_on at final_end sound = grind arith

  pub are_read : (at : PageState) → page ≡ Some at → Sound walk.final_end → AreRead walk at.read
  are_read at page_is sound =
      let on = read_on at walk.final_end (rw page_is at sound) in
      let come = on.0.come in
      record {
        before = come.dropped;
        are_before = (Ok (come.first, come.dropped), come.begins, refl);
        most = omega (arith, come.total);
        all = λ some. let none = come.none_left some in omega (arith, come.total, none);
        final_end = λ end is. elim (on.1 end is) [
          | inl none ↦ inl (omega (arith, come.total, none))
          | inr before ↦ inr before
        ];
      }

  none_read : BeginningsHaveOneTail → (final_end : Option End) → walk.final_end ≡ final_end
      → IsSound file origin walk.yielded cursor None final_end
      → AreRead walk 0
  none_read tails None is sound =
      let one = tails file origin in
      record {
        before = dropped one.is.0;
        are_before = (one.is.0, one.is.1, refl);
        most = omega arith;
        all = λ some. absurd (omega (arith, some, sound.0.0));
        final_end = λ end ends. absurd cc;
      }
  none_read tails (Some final_end) is sound = grind arith

  pub none_are_read : BeginningsHaveOneTail → page ≡ None → Sound walk.final_end → AreRead walk 0
  none_are_read tails page_is sound = none_read tails walk.final_end refl (rw page_is at sound)

  -- the rows have ended
  pub has_ended : (end : End) → HasEndedOn file origin walk.yielded cursor page end → HasNoOtherEnd walk.final_end end
      → HasEndedAs IsTailFrom walk end (record walk { final_end = Some end })
  has_ended end ends no_other = (ends_after file origin walk.yielded cursor page end ends, no_other, refl)

  -- what is left
  pub is_left : BeginningsHaveOneTail → Sound walk.final_end → (items : List RowItem) × (end : End)
      × IsLeft walk items end
  is_left tails sound = by_told walk.final_end refl
    where
      by_told : (final_end : Option End) → walk.final_end ≡ final_end → (items : List RowItem) × (end : End)
          × IsLeft walk items end
      by_told None untold =
          rw untold (left_after IsTailFrom walk start_cursor cursor_after cursor (tails file origin) (cursor_is sound))
      by_told (Some end) final_end =
          let ends = ended walk.final_end end final_end sound in (
            [],
            end,
            rw final_end (left_ended (IsTailFrom file origin) walk.yielded end
                (ends_after file origin walk.yielded cursor page end ends)),
          )

-- the rows have ended so
pub advance_ends : (old new : WalkView) (end : End) → HasEndedAs IsTailFrom old end new
    → IsAdvance old (answer_of end) new
advance_ends old new end ended = grind arith

pub ends_again : (walk : WalkView) (cursor : Cursor) (page : Option PageState) (end : End) → walk.final_end ≡ Some end
    → IsSound walk.file walk.origin walk.yielded cursor page walk.final_end
    → HasEndedAs IsTailFrom walk end (record walk { final_end = Some end })
ends_again walk cursor page end final_end sound = has_ended walk cursor page end (rw final_end at sound) (rw final_end
    refl)

pub ends_now : (walk : WalkView) (cursor : Cursor) (old new : Option PageState) (end : End) → walk.final_end ≡ None
    → IsSound walk.file walk.origin walk.yielded cursor old walk.final_end
    → IsReadNext walk.file walk.origin old (Err (Ended end)) new
    → HasEndedAs IsTailFrom walk end (record walk { final_end = Some end })
ends_now walk cursor old new end untold sound next = grind (arith, has_ended)

-- a page is to be entered, and it is not
module _ (file : List ℕ) (origin : WalkStart) where
  all_read : (old : PageState) → row_of old ≡ old.form.rows → place_of old ≡ first_at (old.page + 1) 0
  all_read old all = grind arith

  leads_nowhere : (items : List RowItem) (first to : RowPosition) → length items ≡ 0
      → LeadTo (IsRow file) first items to
      → to ≡ first
  leads_nowhere [] first to count lead = lead
  leads_nowhere (item ∷ items) first to count lead = absurd (omega (arith, count))

  abbrev starts : RowPosition → ℕ → Result (RowPosition × ℕ) End
  starts first n = Ok (first, n)

  started_past : (at : Cursor) (here : FilePage) (first : RowPosition) (n : ℕ) → here.form.rows ≤ at.row
      → StartsOnPage file (AtCursor at) here (starts first n) → (first ≡ first_at (at.page + 1) 0) × (n ≡ 0)
  started_past at here first n past begins = grind arith

  started_last : (at : Cursor) (here : FilePage) (first : RowPosition) (n : ℕ) → here.form.rows ≤ at.row
      → StartsOnPage file (AtCursor at) here (starts first n) → at.row ≡ here.form.rows
  started_last at here first n past begins = grind arith

  -- a page is read whole, and none of its rows was returned: the walk began on it, or before it
  enters_first : (from : WalkStart) (page n : ℕ) (first : RowPosition) (found : Result FilePage End)
      → read_page file (start_cursor from) ≡ found
      → MatchResult found (λ here. StartsOnPage file from here (starts first n)) (λ none. starts first n ≡ Err none)
      → (n ≡ 0 → first_at (page + 1) 0 ≡ first) → HasPage file (page + 1) → EntersFirst file from
  enters_first from page n first found is begins same there = grind (arith, cases_lt, started_past, started_last)

  last_row : (page : ℕ) (item : RowItem) → item.row < item.form.rows → first_at (page + 1) 0 ≡ place_after item
      → (item.row + 1 ≡ item.form.rows) × (page + 1 ≡ item.page + 1)
  last_row page item within same = grind arith

  enters : (yielded : ℕ) (cursor : Cursor) (old : PageState) → HasReadTo file origin yielded cursor old → IsOpen old
      → row_of old ≡ old.form.rows
      → HasPage file (old.page + 1) → EntersPage file origin yielded
  enters yielded cursor old reads is_open all there =
      grind (arith, common_steps, all_read, leads_nowhere, enters_first, last_row)

  pub not_entered : (initial at new : Option PageState) (fault : OpenFault)
      → ((yielded : ℕ) (cursor : Cursor) → GoesOnFrom file origin yielded cursor initial
      → GoesOnFrom file origin yielded cursor at)
      → (at ≡ initial) ⊎ IsUpcomingOn at → IsEntered file origin at (Err fault) new
      → IsReadNext file origin initial (Err fault) new
  not_entered initial None new Memory goes (inl here) (refused, first, same) = grind arith
  not_entered initial None new Memory goes (inr upcoming) _ = absurd upcoming
  not_entered initial None new (Ended end) goes there (refused, first, same) = grind arith
  not_entered initial (Some old) new Memory goes (inl here) (read, refused, page, same) =
      grind (arith, common_steps, enters)
  not_entered initial (Some old) new Memory goes (inr upcoming) (read, refused, page, same) = grind arith
  not_entered initial (Some old) new (Ended end) goes there (read, stop, page, same) = grind arith
