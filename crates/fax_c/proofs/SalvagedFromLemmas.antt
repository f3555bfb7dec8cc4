-- What is left of a page from a place on, written row after row.
use Rattle.std.proofs.Common.{◌≡◌, ℕ, zero, suc, ◌+◌, ◌*◌, ◌%◌, ◌<◌, ◌≤◌, List, [], ◌∷◌, ◌++◌, length}
use Rattle.std.proofs.Common.{take, drop}
use Rattle.std.proofs.Common.{replicate, true, false, Option, Some, None, Ok, Err, refl, sym, ap, ◌∙◌, arith}
use Rattle.std.proofs.Common.{append_assoc, append-nil, length-append, inl, inr}
use Rattle.std.specs.Prelude.{◌⊎◌, ◌≢◌, flat_map, not}
use Rattle.std.proofs.lemmas.List.{length-replicate, length_push}
use Rattle.fax_rows.specs.Rows.{Colour, White, runs_of}
use Rattle.fax_rows.specs.Coded.{packed_len}
use Rattle.std.proofs.lemmas.Nat.{mod-mul-add}
use Rattle.fax_page.specs.Lines.{white_row}
use Rattle.fax_page.specs.declared.PlaceFault.TheVariants.{Memory as no_memory, Outside as no_such_place}
use Rattle.fax_page.specs.declared.ReferenceRow.{ReferenceRow}
use Rattle.fax_page.specs.declared.ReferenceRow.TheVariants.{Runs, White as White_row_before}
use Rattle.fax_page.specs.views.Reader.{IsBefore}
use Rattle.fax_files.specs.declared.Cause.{Cause}
use Rattle.fax_walk.specs.declared.cursor.Cursor.{Cursor}
use Rattle.fax_walk.specs.declared.end.End.TheVariants.{Fault, EndOfPages, Outside}
use Rattle.fax_walk.specs.declared.salvage.LostRows.{LostRows}
use Rattle.fax_walk.specs.declared.salvage_rows.SalvagedPart.TheVariants.{Found, Lost}
use Rattle.fax_walk.specs.declared.salvage_rows.StripPositionRef.{StripPositionRef}
use Rattle.fax_walk.specs.Items.{StripPosition}
use Rattle.fax_walk.specs.Pages.{FilePage}
use Rattle.fax_walk.specs.Salvaged.{PageRow, SalvagedItem, row_found, page_items}
use Rattle.fax_walk.specs.Salvaged.{AreRowsFrom, IsRowOfStrip}
use Rattle.fax_walk.specs.views.RowsFrom.{RowsFromView, AreLeftNow, EndsWithPage, IsNextFrom, IsPlaceNow}
use Rattle.fax_walk.specs.views.RowsFrom.{IsInnerOf, IsNotStartedFrom, PassesOver, upcoming_row}
use Rattle.fax_walk.specs.code.SalvagePage.{rows_of, with_lost}
use Rattle.fax_walk.specs.views.LostRows.{longer}
use Rattle.fax_walk.proofs.SalvagePageLemmas.{lost_on}
use Rattle.fax_c.specs.declared.fill.Filled.{Filled}
use Rattle.fax_c.specs.declared.fill.Stop.{Stop}
use Rattle.fax_c.specs.declared.fill.Stop.TheVariants.{Done, Ended, Memory, NoRoom}
use Rattle.fax_c.specs.declared.places.FaxPlace.{FaxPlace}
use Rattle.fax_c.specs.declared.salvaged_raster.FaxLost.{FaxLost}
use Rattle.fax_c.specs.declared.salvage_from.SkippedRows.{SkippedRows}
use Rattle.fax_c.specs.Raster.{padded_row}
use Rattle.fax_c.specs.SalvagedRaster.{found_of, lost_from, lost_of}
use Rattle.fax_c.specs.code.CallSteps.{IsPutAt}
use Rattle.fax_c.specs.code.SalvagedRaster.{IsStretchPut}
use Rattle.fax_c.specs.code.SalvagedFrom.{AreRowsFilled, EndsOrGoesOn, IsAhead, IsStopBefore, IsToldAfter}
use Rattle.fax_c.specs.code.SalvagedFrom.{IsToldPlace, stretches_of}
use Rattle.fax_c.specs.code.BareStrips.{IsRowBefore}
use Rattle.fax_c.specs.Told.{none_filled_at}
use Rattle.std.proofs.lemmas.List.{same_from_push}
use Rattle.fax_c.specs.views.Places.{HasRuns, cursor_of, place_at}
use Rattle.fax_c.specs.views.SalvagedFrom.{EndsFound, HasRoomForBoth, HasRoomFor, IsFull, IsFullAfter}
use Rattle.fax_c.specs.views.SalvagedFrom.{IsPlaceOn, LeftMemory, WritesFrom, WritesNone}
use Rattle.fax_c.proofs.ListLemmas.{more_put, one_set}
use Rattle.fax_c.proofs.StripLemmas.{upcoming_told}
use Rattle.fax_c.proofs.PaddedLemmas.{fills_stride, padded_push}
use Rattle.fax_walk.proofs.ShortLemmas.{some_run}

-- the rows that are found among some and among others
found_append : (rows others : List PageRow) → found_of (rows ++ others) ≡ found_of rows ++ found_of others
found_append [] others = refl
found_append (Ok row ∷ rows) others = ap (λ (l : List (List Colour)). row ∷ l) (found_append rows others)
found_append (Err cause ∷ rows) others = found_append rows others

none_found : (n : ℕ) (cause : Cause) → found_of (replicate n (Err cause)) ≡ []
none_found zero cause = refl
none_found (suc n) cause = none_found n cause

-- no more are found than there are
pub found_few : (rows : List PageRow) → length (found_of rows) ≤ length rows
found_few [] = omega arith
found_few (Ok row ∷ rows) = let few = found_few rows in omega (arith, few)
found_few (Err cause ∷ rows) = let few = found_few rows in omega (arith, few)

-- rows that are passed one after another
passes_on : {a b c : RowsFromView} (first later : List PageRow) → PassesOver a first b → PassesOver b later c
    → PassesOver a (first ++ later) c
passes_on first later one two = record {
  same_file = two.same_file ∙ one.same_file;
  same_here = two.same_here ∙ one.same_here;
  next = omega (arith, one.next, two.next, length-append first later);
  within = rw one.same_here at two.within;
  followed = λ rows is. rw append_assoc (one.followed (later ++ rows) (two.followed rows is));
}

passes_none : (a : RowsFromView) → upcoming_row a ≤ a.here.form.rows → PassesOver a [] a
passes_none a within = grind arith

-- a stretch that a row ends which is found
pub lost_then : (lost : Option LostRows) (page row : ℕ) (pels : List Colour) (items : List SalvagedItem)
    → lost_of (with_lost lost (row_found page row pels ∷ items)) ≡ stretches_of lost ++ lost_of items
lost_then None page row pels items = refl
lost_then (Some stretch) page row pels items = refl

pub lost_last : (lost : Option LostRows) → lost_of (with_lost lost []) ≡ stretches_of lost ++ []
lost_last None = refl
lost_last (Some stretch) = refl

module _ (first : RowsFromView) (page row : ℕ) where
  -- rows are passed that are all lost
  pub record AreLostSoFar (now : RowsFromView) (upcoming : ℕ) (lost : Option LostRows) : Type 0 where
    pub passed : List PageRow
    pub passes : PassesOver first passed now
    pub upcoming_is : upcoming ≡ row + length passed
    pub at : upcoming_row now ≡ upcoming
    pub none : found_of passed ≡ []
    pub items : (rows : List PageRow) → page_items page row (passed ++ rows)
        ≡ with_lost lost (page_items page upcoming rows)
    pub few : rows_of lost ≤ upcoming

  pub none_lost : upcoming_row first ≡ row → row ≤ first.here.form.rows → AreLostSoFar first row None
  none_lost at within = record {
    passed = [];
    passes = passes_none first (omega (arith, at, within));
    upcoming_is = omega arith;
    at = at;
    none = refl;
    items = λ rows. refl;
    few = omega arith;
  }

module _ {first now new : RowsFromView} {page row upcoming : ℕ} {lost : Option LostRows}
    (so_far : AreLostSoFar first page row now upcoming lost) where
  -- more are lost
  pub more_lost : (n : ℕ) (cause : Cause) → IsNextFrom now (Some (Lost n cause)) new
      → AreLostSoFar first page row new (upcoming + n) (Some (longer lost page upcoming n cause))
  more_lost n cause (some, passes) =
      let others : List PageRow = replicate n (Err cause) in
      let len : length others ≡ n = length-replicate n (Err cause) in
      record {
        passed = so_far.passed ++ others;
        passes = passes_on so_far.passed others so_far.passes passes;
        upcoming_is = omega (arith, so_far.upcoming_is, length-append so_far.passed others, len);
        at = omega (arith, passes.next, so_far.at, len);
        none = rw (found_append, so_far.none) (none_found n cause);
        items = λ rows. rw (append_assoc, so_far.items) (lost_on lost page upcoming n cause rows some);
        few = grind (arith, so_far.few);
      }

  -- the next one is found
  pub found_ahead : IsNextFrom now (Some Found) new
      → IsAhead first page row (record { row = upcoming + 1; lost = lost; found = true }) new
  found_ahead (passes, none, ends) = record {
    passed = so_far.passed ++ Ok new.last ∷ [];
    passes = passes_on so_far.passed (Ok new.last ∷ []) so_far.passes passes;
    row_is = omega (arith, so_far.upcoming_is, length_push so_far.passed (Ok new.last));
    lost_are = λ rows _. rw (append_assoc, so_far.items)
        (lost_then lost page upcoming new.last (page_items page (upcoming + 1) rows));
    found = λ _. (rw (found_append, so_far.none), (so_far.passed, new.last, refl), none, ends);
    ended = λ not. absurd cc;
  }

  -- no other is left
  pub none_ahead : IsNextFrom now None new
      → IsAhead first page row (record { row = upcoming; lost = lost; found = false }) new
  none_ahead (passes, all, are, alone) = record {
    passed = so_far.passed ++ [];
    passes = passes_on so_far.passed [] so_far.passes passes;
    row_is = omega (arith, so_far.upcoming_is, length-append so_far.passed []);
    lost_are = λ rows none. rw (none refl, append_assoc, so_far.items) (lost_last lost);
    found = λ is. absurd cc;
    ended = λ _. (rw append-nil so_far.none, all, alone);
  }

-- rows that end with one that is found stand before others that are lost
first_of_all : (passed later first others : List PageRow) → found_of later ≡ [] → passed ++ later ≡ first ++ others
    → EndsFound first → (more : List PageRow) × (passed ≡ first ++ more)
first_of_all [] later first others none is (before, row, ends) =
    let some : found_of (before ++ Ok row ∷ []) ++ found_of others ≡ [] = rw (is, found_append, ends) at none in
    absurd (omega (
      arith,
      ap length some,
      length-append (found_of (before ++ Ok row ∷ [])) (found_of others),
      ap length (found_append before (Ok row ∷ [])),
      length_push (found_of before) row,
    ))
first_of_all (x ∷ passed) later [] others none is ([], row, ends) = cc
first_of_all (x ∷ passed) later [] others none is (y ∷ before, row, ends) = cc
first_of_all (x ∷ passed) later (y ∷ []) others none is ends =
    let same : x ≡ y = cc is in (passed, λ i. same i ∷ passed)
first_of_all (x ∷ passed) later (y ∷ z ∷ first) others none is ([], row, ends) = cc
first_of_all (x ∷ passed) later (y ∷ z ∷ first) others none is (v ∷ before, row, ends) =
    let (more, so) = first_of_all passed later (z ∷ first) others none (cc is) (before, row, cc ends) in
    let same : x ≡ y = cc is in (more, λ i. same i ∷ so i)

-- what stands before others among rows and one more stands among those rows, or is all
all_but_last : (rows first others : List PageRow) (row : PageRow) → rows ++ row ∷ [] ≡ first ++ others → others ≢ []
    → (more : List PageRow) × (rows ≡ first ++ more)
all_but_last rows [] others row is some = (rows, refl)
all_but_last [] (y ∷ []) others row is some = absurd (some (cc is))
all_but_last [] (y ∷ z ∷ first) others row is some = cc
all_but_last (x ∷ rows) (y ∷ first) others row is some =
    let (more, so) = all_but_last rows first others row (cc is) some in
    let same : x ≡ y = cc is in (more, λ i. same i ∷ so i)

-- stretches are written after others, where one more has room
stretches_put : (closed old now new : List FaxLost) (ahead : Option LostRows) (count to : ℕ)
    → now ≡ closed ++ drop count old → count ≡ length closed → length now ≡ length old → count < length old
    → IsStretchPut ahead now count to new
    → (new ≡ (closed ++ stretches_of ahead) ++ drop to old) × (to ≡ length (closed ++ stretches_of ahead))
    × (to ≤ length old) × (to ≤ count + 1)
stretches_put closed old now new None count to so_far count_is len room put = grind (arith, append-nil)
stretches_put closed old now new (Some stretch) count to so_far count_is len room put =
    grind (arith, one_set, length_push)

module _ (first : RowsFromView) (page row stride : ℕ) (old : List ℕ) (old_lost : List FaxLost) where
  -- so much is written
  pub record AreWrittenSoFar (now : RowsFromView) (upcoming count used stretches : ℕ) (out : List ℕ) (lost : List
      FaxLost)
      : Type 0 where
    pub passed : List PageRow
    pub passes : PassesOver first passed now
    pub upcoming_is : upcoming ≡ row + length passed
    pub at : upcoming_row now ≡ upcoming
    pub count_is : count ≡ length (found_of passed)
    pub bytes : length (flat_map (padded_row stride) (found_of passed)) ≡ used
    pub used_is : used ≡ count * stride
    pub within : used ≤ length old
    pub written : out ≡ flat_map (padded_row stride) (found_of passed) ++ drop used old
    pub closed : List FaxLost
    pub stretches_are : (rows : List PageRow) → lost_from page row (passed ++ rows) ≡ closed
        ++ lost_from page upcoming rows
    pub stretches_is : stretches ≡ length closed
    pub put : lost ≡ closed ++ drop stretches old_lost
    pub fits : stretches ≤ length old_lost
    pub few : stretches + row ≤ upcoming
    pub had_room : (one others : List PageRow) → passed ≡ one ++ others → others ≢ []
        → IsFullAfter page row stride (length old) (length old_lost) one → ⊥
    pub ends : ((used ≡ 0) × (stretches ≡ 0))
        ⊎ (EndsFound passed × (now.reader.before ≡ None) × EndsWithPage now)

  pub nothing_written : upcoming_row first ≡ row → row ≤ first.here.form.rows
      → AreWrittenSoFar first row 0 0 0 old old_lost
  nothing_written at within = record {
    passed = [];
    passes = passes_none first (omega (arith, at, within));
    upcoming_is = omega arith;
    at = at;
    count_is = refl;
    bytes = refl;
    used_is = omega arith;
    within = omega arith;
    written = refl;
    closed = [];
    stretches_are = λ rows. refl;
    stretches_is = refl;
    put = refl;
    fits = omega arith;
    few = omega arith;
    had_room = λ one others is some full. some (none_after one others is);
    ends = inl (refl, refl);
  }
    where
      none_after : (one others : List PageRow) → [] ≡ one ++ others → others ≡ []
      none_after [] others is = sym is
      none_after (x ∷ one) others is = cc

module _ {first now : RowsFromView} {page row stride upcoming count used stretches : ℕ} {old out : List ℕ}
    {old_lost lost : List FaxLost}
    (so_far : AreWrittenSoFar first page row stride old old_lost now upcoming count used stretches out lost) where
  lost_so_far : lost_from page row so_far.passed ≡ so_far.closed
  lost_so_far = simp append-nil at (so_far.stretches_are [])

  -- where more has room now, it had room after all the rows before
  never_full : HasRoomForBoth (length old) used stride stretches (length old_lost) → (one more : List PageRow)
      → so_far.passed ≡ one ++ more → IsFullAfter page row stride (length old) (length old_lost) one → ⊥
  never_full room one [] is full =
      let all : so_far.passed ≡ one = is ∙ append-nil one in
      let same = rw (← all, lost_so_far, ← so_far.count_is, ← so_far.used_is, ← so_far.stretches_is) at full.full in
      omega (arith, same, room)
  never_full room one (x ∷ more) is full = so_far.had_room one (x ∷ more) is (λ none. cc) full

  module _ {new : RowsFromView} {ahead : SkippedRows} (next : IsAhead now page upcoming ahead new)
      (len_lost : length lost ≡ length old_lost) (room : stretches < length old_lost) (to : ℕ)
      (new_lost : List FaxLost) (stretch : IsStretchPut ahead.lost lost stretches to new_lost) where
    abbrev its_over : List PageRow
    its_over = so_far.passed ++ next.passed

    its_passes : PassesOver first its_over new
    its_passes = passes_on so_far.passed next.passed so_far.passes next.passes

    abbrev its_closed : List FaxLost
    its_closed = so_far.closed ++ stretches_of ahead.lost

    upcoming_next : ahead.row ≡ row + length its_over
    upcoming_next = omega (arith, next.row_is, so_far.upcoming_is, length-append so_far.passed next.passed)

    its_lost : (rows : List PageRow) → (ahead.found ≡ false → rows ≡ [])
        → lost_from page row (its_over ++ rows) ≡ its_closed ++ lost_from page ahead.row rows
    its_lost rows none = simp (append_assoc, so_far.stretches_are, next.lost_are rows none)

    its_put : (new_lost ≡ its_closed ++ drop to old_lost) × (to ≡ length its_closed) × (to ≤ length old_lost)
        × (to ≤ stretches + 1)
    its_put = stretches_put so_far.closed old_lost lost new_lost ahead.lost stretches to so_far.put so_far.stretches_is
        len_lost room stretch

    -- a row that is found
    pub one_more : ahead.found ≡ true → HasRoomForBoth (length old) used stride stretches (length old_lost)
        → length new.last ≡ new.here.form.width → packed_len first.here.form.width ≤ stride → length out ≡ length old
        → (end : ℕ) (new_out : List ℕ)
        → IsPutAt (padded_row stride new.last) out used (Some end) new_out
        → AreWrittenSoFar first page row stride old old_lost new ahead.row (count + 1) end to new_out new_lost
    one_more is has_room width fits len_out end new_out (end_is, inside, new_is) =
        let (alone, ends, none, with_page) = next.found is in
        let short : packed_len (length new.last) ≤ stride = rw (width, its_passes.same_here) fits in
        let front = flat_map (padded_row stride) (found_of so_far.passed) in
        let rows_are : found_of its_over ≡ found_of so_far.passed ++ new.last ∷ [] = rw (found_append, alone) in
        let bytes_are : flat_map (padded_row stride) (found_of its_over) ≡ front ++ padded_row stride new.last =
        rw rows_are (padded_push stride (found_of so_far.passed) new.last) in
        record {
          passed = its_over;
          passes = its_passes;
          upcoming_is = upcoming_next;
          at = omega (arith, next.passes.next, next.row_is, so_far.at);
          count_is = rw (rows_are, length_push, so_far.count_is);
          bytes = rw (bytes_are, length-append, so_far.bytes) (sym end_is);
          used_is = omega (arith, end_is, fills_stride stride new.last short, so_far.used_is);
          within = omega (arith, inside, len_out);
          written = rw bytes_are (more_put front old out (padded_row stride new.last) new_out used end so_far.bytes
              so_far.written end_is new_is);
          closed = its_closed;
          stretches_are = λ rows. its_lost rows (λ not. absurd (cc (is, not)));
          stretches_is = its_put.1;
          put = its_put.0;
          fits = its_put.2;
          few = omega (arith, its_put.3, so_far.few, next.row_is, ends_some ends);
          had_room = λ one others is_all some full. had alone ends one others is_all some full;
          ends = inr (all_end ends, none, with_page);
        }
      where
        ends_some : EndsFound next.passed → 0 < length next.passed
        ends_some (before, row, is) = rw (is, length_push) (omega arith)

        all_end : EndsFound next.passed → EndsFound its_over
        all_end (before, pels, is) = (so_far.passed ++ before, pels, rw (is, append_assoc) refl)

        -- of the rows before the last one none but those of before end with one that is found
        had : found_of next.passed ≡ new.last ∷ [] → EndsFound next.passed → (one others : List PageRow)
            → its_over ≡ one ++ others → others ≢ []
            → IsFullAfter page row stride (length old) (length old_lost) one → ⊥
        had alone (before, pels, is) one others all some full =
            let only : found_of before ++ pels ∷ [] ≡ new.last ∷ [] = rw (is, found_append) at alone in
            let none = (same_from_push (found_of before) [] pels new.last only).0 in
            let split : (so_far.passed ++ before) ++ Ok pels ∷ [] ≡ one ++ others =
            append_assoc so_far.passed before (Ok pels ∷ []) ∙ ap (λ l. so_far.passed ++ l) (sym is) ∙ all in
            let (rest, so) = all_but_last (so_far.passed ++ before) one others (Ok pels) split some in
            let (more, within) = first_of_all so_far.passed before one rest none so full.found in
            never_full has_room one more within full

    -- no other row is left
    pub ended : ahead.found ≡ false → HasRoomForBoth (length old) used stride stretches (length old_lost)
        → AreRowsFilled page row stride first old old_lost
        (record { cursor = record { page = page; row = ahead.row }; count = count; used = to; stop = Ended EndOfPages })
        new
        out new_lost
    ended is has_room =
        let (none, all, alone) = next.ended is in
        let found_are : found_of its_over ≡ found_of so_far.passed = rw (found_append, none, append-nil) in
        let lost_are : lost_from page row its_over ≡ its_closed = simp append-nil at (its_lost [] (λ _. refl)) in
        record {
          same_file = its_passes.same_file;
          same_here = its_passes.same_here;
          row_is = ap (λ n. record { page = page; row = n }) (omega (arith, next.passes.next, next.row_is, so_far.at));
          within = omega (arith, all);
          ends = inl all;
          with_page = λ _. alone;
          written = λ rest remaining. (
            its_over ++ rest,
            its_passes.followed rest remaining,
            record {
              passed = its_over;
              split = refl;
              count = rw found_are so_far.count_is;
              used = rw lost_are its_put.1;
              cursor = ap (λ n. record { page = page; row = n }) upcoming_next;
              written = rw (found_are, ← so_far.used_is) so_far.written;
              lost_are = rw lost_are its_put.0;
              stops = (
                alone rest remaining,
                λ one others is_all full.
                    let (more, within) = first_of_all so_far.passed next.passed one others none is_all full.found in
                    never_full has_room one more within full,
              );
            },
          );
        }

  -- no more has room
  pub is_done : HasRoomForBoth (length old) 0 stride 0 (length old_lost)
      → IsFull (length old) used stride stretches (length old_lost)
      → AreRowsFilled page row stride first old old_lost
      (record { cursor = record { page = page; row = upcoming }; count = count; used = stretches; stop = Done }) now out
      lost
  is_done room full = elim so_far.ends [
    | inl none ↦ absurd (omega (arith, full, none, room))
    | inr (ends, none, with_page) ↦
        record {
          same_file = so_far.passes.same_file;
          same_here = so_far.passes.same_here;
          row_is = ap (λ n. record { page = page; row = n }) (sym so_far.at);
          within = omega (arith, so_far.passes.within, ap (λ (p : FilePage). p.form.rows) so_far.passes.same_here);
          ends = inr none;
          with_page = with_page;
          written = λ rest remaining. (
            so_far.passed ++ rest,
            so_far.passes.followed rest remaining,
            record {
              passed = so_far.passed;
              split = refl;
              count = so_far.count_is;
              used = rw lost_so_far so_far.stretches_is;
              cursor = ap (λ n. record { page = page; row = n }) so_far.upcoming_is;
              written = rw (← so_far.used_is) so_far.written;
              lost_are = rw lost_so_far so_far.put;
              stops = (
                record {
                  found = ends;
                  full = rw (lost_so_far, ← so_far.count_is, ← so_far.used_is, ← so_far.stretches_is) full;
                },
                so_far.had_room,
              );
            },
          );
        }
  ]

module _ (remaining : RowsFromView) (place : FaxPlace) (cursor : Cursor) (runs : List ℕ)
    (row_is : cursor.row ≡ upcoming_row remaining) (more : cursor.row ≢ remaining.here.form.rows) (ends : EndsOrGoesOn
    remaining) where
  abbrev goes_on : remaining.reader.before ≡ None
  goes_on = elim ends.1 [ inl all ↦ absurd (omega (arith, all, row_is, more)) | inr none ↦ none ]

  abbrev upcoming : upcoming_row remaining < remaining.here.form.rows
  upcoming = omega (arith, ends.0, row_is, more)

  -- the place of the next row, which its strip begins with
  pub told_at : place ≡ place_at cursor → IsPlaceNow remaining None → IsToldAfter remaining cursor place runs runs
  told_at place_is placed =
      let row_there : place.row ≡ upcoming_row remaining = ap (λ (p : FaxPlace). p.row) place_is ∙ row_is in
      let (s, i, there, fits, width, first, rows_are) = placed goes_on upcoming in
      let at : StripPosition = record { bits = 0; reference = white_row remaining.here.form.width } in
      let is_on : IsPlaceOn remaining.file remaining.here place runs s i at = record {
        row = rw row_there there;
        within = fits;
        width = width;
        so = inl (ap (λ (p : FaxPlace). p.runs) place_is, first refl, refl, refl);
      } in
      (ap cursor_of place_is, refl, inr (s, i, at, is_on, rows_are))

  -- or it stands inside its strip
  pub told_inside : (old_runs : List ℕ) (lent : StripPositionRef) → cursor_of place ≡ cursor → place.bits ≡ lent.bits
      → IsPlaceNow remaining (Some lent) → IsPutAt (runs_of lent.reference.now) old_runs 0 (Some place.runs) runs
      → IsToldAfter remaining cursor place old_runs runs
  told_inside old_runs lent cursor_is bits_are placed put =
      let row_there : place.row ≡ upcoming_row remaining = ap (λ (c : Cursor). c.row) cursor_is ∙ row_is in
      let (s, i, there, fits, width, first, rows_are) = placed goes_on upcoming in
      let told = upcoming_told remaining.here.form.width lent.reference.now (upcoming_row remaining) lent.bits
      place.runs
      cursor.page
      old_runs runs width put in
      let at : StripPosition = record { bits = lent.bits; reference = lent.reference.now } in
      let is_on : IsPlaceOn remaining.file remaining.here place runs s i at = record {
        row = rw row_there there;
        within = fits;
        width = width;
        so = inr (told.0, sym bits_are, runs_told told.1.reference);
      } in
      (cursor_is, told.2, inr (s, i, at, is_on, rows_are))
    where
      runs_told : ((place.runs ≡ 0) × (lent.reference.now ≡ white_row remaining.here.form.width))
          ⊎ (HasRuns place runs × (runs_of lent.reference.now ≡ take place.runs runs))
          → runs_of lent.reference.now ≡ take place.runs runs
      runs_told (inl (none, _)) = absurd (omega (arith, none, put.0, some_run White 0 lent.reference.now))
      runs_told (inr (_, is)) = is

-- a place of the caller's, and what is written from there on
module _ (file : List ℕ) (here : FilePage) (stride : ℕ) (place : FaxPlace) (runs old : List ℕ)
    (old_lost : List FaxLost) where
  abbrev m : ℕ
  m = here.form.rows_per_strip

  abbrev memory : LeftMemory
  memory = record { place = place; runs = runs; raster = old; lost = old_lost }

  -- nothing is written, for this reason
  written_none : {filled : Filled} (stop : Stop)
      → WritesNone file here stride place runs (length old) (length old_lost) stop
      → filled ≡ none_filled_at (cursor_of place) stop → WritesFrom file here stride memory filled memory
  written_none stop why filled_is = rw filled_is (inr (why, refl, refl))

  -- nothing is looked for at the place
  pub none_before : {filled : Filled} (stop : Stop) → 0 < m
      → IsStopBefore here.form place stride (length old) (length old_lost) (Some stop)
      → filled ≡ none_filled_at (cursor_of place) stop → WritesFrom file here stride memory filled memory
  none_before Done some why = absurd why
  none_before Memory some why = absurd why
  none_before (Ended (Fault p r cause)) some why = absurd why
  none_before NoRoom some full = written_none NoRoom full
  none_before (Ended EndOfPages) some why = written_none (Ended EndOfPages) why
  none_before (Ended Outside) some (room, more, out) =
      written_none (Ended Outside) (room, more, λ s i at its. nowhere s i at its out)
    where
      nowhere : (s i : ℕ) (at : StripPosition) → IsPlaceOn file here place runs s i at
          → (here.form.rows < place.row) ⊎ ((place.runs ≡ 0) × (place.row % m ≢ 0)) → ⊥
      nowhere s i at its (inl past) = omega (arith, past, its.row.row, its.row.place)
      nowhere s i at its (inr (none, inside)) = elim its.so [
        | inl first ↦ inside (rw (its.row.place, first.1) (mod-mul-add s m 0 some))
        | inr has ↦ omega (arith, none, has.0.0)
      ]

  -- what a place of the caller's is
  module _ {bits : ℕ} {row_before : ReferenceRow} (before : IsRowBefore place runs (Some row_before))
      (none : place.runs ≡ 0 → bits ≡ 0) (some_bits : place.runs ≢ 0 → bits ≡ place.bits) where
    pub inner_is : (s i : ℕ) (at : StripPosition) → IsPlaceOn file here place runs s i at
        → IsInnerOf file here s bits row_before at
    inner_is s i at its = by_before row_before before
      where
        by_before : (row_before : ReferenceRow) → IsRowBefore place runs (Some row_before)
            → IsInnerOf file here s bits row_before at
        by_before White_row_before is = elim its.so [
          | inl (_, _, at_none, white) ↦ record {
            bits_are = at_none ∙ sym (none is);
            within = omega (arith, its.within, at_none, none is);
            reference = white;
          }
          | inr (has, _, _) ↦ absurd (omega (arith, is, has.0))
        ]
        by_before (Runs those) (has, those_are) = elim its.so [
          | inl (no_runs, _, _, _) ↦ absurd (omega (arith, no_runs, has.0))
          | inr (_, at_bits, runs_are) ↦
              let same : bits ≡ place.bits = some_bits (λ zero. omega (arith, zero, has.0)) in record {
                bits_are = at_bits ∙ sym same;
                within = omega (arith, its.within, at_bits, same);
                reference = (its.width, runs_are ∙ sym those_are);
              }
        ]

    pub place_is : {s i : ℕ} {at : StripPosition} → 0 < m → (place.runs ≡ 0 → place.row % m ≡ 0)
        → IsRowOfStrip here.form place.row s i → IsInnerOf file here s bits row_before at
        → IsPlaceOn file here place runs s i at
    place_is {s} {i} {at} some first there inner = record {
      row = there;
      within = omega (arith, inner.within, inner.bits_are);
      width = wide row_before inner.reference;
      so = by_before row_before before inner.reference;
    }
      where
        wide : (row_before : ReferenceRow) → IsBefore here.form.width row_before at.reference
            → length at.reference ≡ here.form.width
        wide White_row_before white = rw (white, length-replicate)
        wide (Runs those) (width, _) = width

        by_before : (row_before : ReferenceRow) → IsRowBefore place runs (Some row_before)
            → IsBefore here.form.width row_before at.reference
            → ((place.runs ≡ 0) × (i ≡ 0) × (at.bits ≡ 0) × (at.reference ≡ white_row here.form.width))
            ⊎ (HasRuns place runs × (at.bits ≡ place.bits) × (runs_of at.reference ≡ take place.runs runs))
        by_before White_row_before is white =
            let less : i < m = omega (arith, there.row) in
            let rest : place.row % m ≡ i = rw there.place (mod-mul-add s m i less) in
            inl (is, sym rest ∙ first is, inner.bits_are ∙ none is, white)
        by_before (Runs those) (has, those_are) (_, runs_are) =
            let same : bits ≡ place.bits = some_bits (λ zero. omega (arith, zero, has.0)) in
            inr (has, inner.bits_are ∙ same, runs_are ∙ those_are)

    -- memory was refused at the place
    pub no_memory_from : {filled : Filled} → 0 < m → HasRoomFor here.form.width stride (length old) (length old_lost)
        → place.row < here.form.rows → (place.runs ≡ 0 → place.row % m ≡ 0)
        → IsNotStartedFrom (record { file = file; here = here }) place.row bits row_before no_memory
        → filled ≡ none_filled_at (cursor_of place) Memory → WritesFrom file here stride memory filled memory
    no_memory_from some room upcoming first fits =
        written_none Memory (
          room,
          upcoming,
          λ s i there.
              let (at, inner) = fits s i there in (at, place_is some first there inner),
        )

    -- no row of the page is expected at the place
    pub nowhere_from : {filled : Filled} → HasRoomFor here.form.width stride (length old) (length old_lost)
        → place.row < here.form.rows
        → IsNotStartedFrom (record { file = file; here = here }) place.row bits row_before no_such_place
        → filled ≡ none_filled_at (cursor_of place) (Ended Outside) → WritesFrom file here stride memory filled memory
    nowhere_from room upcoming not =
        let more : place.row ≢ here.form.rows = λ all. omega (arith, upcoming, all) in
        written_none (Ended Outside) (room, more, λ s i at its. not s i its.row at (inner_is s i at its))

  module _ {first new : RowsFromView} {filled : Filled} {place' : FaxPlace} {new_runs out : List ℕ}
      {lost : List FaxLost} {rest : List PageRow} (file_is : first.file ≡ file) (here_is : first.here ≡ here)
      (written : AreRowsFilled place.page place.row stride first old old_lost filled new out lost)
      (remaining : AreLeftNow new rest) (told : IsToldAfter new filled.cursor place' runs new_runs) where
    same_file : new.file ≡ file
    same_file = written.same_file ∙ file_is

    same_here : new.here ≡ here
    same_here = written.same_here ∙ here_is

    after : IsToldPlace new filled.cursor place' new_runs
        → ((filled.cursor.row ≡ here.form.rows) × (place' ≡ place_at filled.cursor) × (rest ≡ []))
        ⊎ ((s : ℕ) × (i : ℕ) × (at : StripPosition) × IsPlaceOn file here place' new_runs s i at
        × AreRowsFrom file here s i at rest)
    after (inl (all, is)) =
        let row_is : filled.cursor.row ≡ upcoming_row new = ap (λ (c : Cursor). c.row) written.row_is in
        inl (rw same_here at all, is, written.with_page (sym row_is ∙ all) rest remaining)
    after (inr (s, i, at, there, rests)) =
        inr (s, i, at, rw (same_file, same_here) at there, rw (same_file, same_here) at (rests rest remaining))

    -- what is left from the place on is written
    pub all_from : {s i : ℕ} {at : StripPosition} → HasRoomFor here.form.width stride (length old) (length old_lost)
        → IsPlaceOn file here place runs s i at
        → ((rows : List PageRow) → AreLeftNow first rows → AreRowsFrom file here s i at rows)
        → WritesFrom file here stride memory filled
        (record { place = place'; runs = new_runs; raster = out; lost = lost })
    all_from {s} {i} {at} room its rows_are =
        let (rows, are, now) = written.written rest remaining in
        inl (room, s, i, at, its, rows, rest, rows_are rows are, now, (told.0, told.1, after told.2))
