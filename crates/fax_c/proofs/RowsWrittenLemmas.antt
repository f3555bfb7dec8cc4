-- Rows that are written one after another.
use Rattle.std.proofs.Common.{◌≡◌, ℕ, suc, ◌+◌, ◌<◌, ◌≤◌, List, [], ◌∷◌, ◌++◌, length, set, take, drop, refl, ap, sym}
use Rattle.std.proofs.Common.{◌∙◌}
use Rattle.std.proofs.Common.{append_assoc, append-nil, arith, zero-add, inl, inr, length-append, Ok, Err}
use Rattle.std.specs.Prelude.{Some, slice_get}
use Rattle.std.proofs.lemmas.List.{length-drop, length-take-le}
use Rattle.std.proofs.lemmas.Option.{slice_get_within}
use Rattle.fax_rows.specs.Rows.{Colour}
use Rattle.fax_walk.specs.declared.walk_start.WalkStart.{WalkStart}
use Rattle.fax_walk.specs.declared.cursor.Cursor.{Cursor}
use Rattle.fax_walk.specs.declared.end.End.{End}
use Rattle.fax_walk.specs.Items.{RowItem, IsTailFrom, start_cursor, cursor_after}
use Rattle.fax_walk.specs.views.InOrder.{IsNumber}
use Rattle.fax_walk.specs.views.Walk.{HasPage, WalkView, IsCursorOf}
use Rattle.fax_walk.specs.laws.Tails.{BeginningsHaveOneTail}
use Rattle.fax_c.specs.declared.fill.Stop.{Stop}
use Rattle.fax_c.specs.declared.fill.Stop.TheVariants.{Done, Ended, Memory, NoRoom}
use Rattle.fax_c.specs.declared.rows.FaxRow.{FaxRow}
use Rattle.fax_c.specs.views.Filled.{AreRowsFilled, StopsAfterRows, TakesRuns, all_numbers, cursor_after_rows, row_at}
use Rattle.fax_c.specs.views.Filled.{rows_at}
use Rattle.fax_c.specs.code.CallSteps.{IsPut, IsPutTo, IsRefusedAt, IsWalkAfter}
use Rattle.fax_c.proofs.ListLemmas.{more_put, one_set, take_at}
use Rattle.fax_c.proofs.ItemLemmas.{end_is, number_is}

numbers-push : {N : Type 0} (numbers : List Colour → List N) (items : List RowItem) (item : RowItem)
    → all_numbers numbers (items ++ item ∷ []) ≡ all_numbers numbers items ++ numbers item.pels
numbers-push numbers [] item = append-nil (numbers item.pels)
numbers-push numbers (first ∷ items) item = grind (arith, append_assoc, numbers-push numbers items item)

rows-push : {N : Type 0} (numbers : List Colour → List N) (at : ℕ) (items : List RowItem) (item : RowItem)
    → rows_at numbers at (items ++ item ∷ []) ≡ rows_at numbers at items
    ++ row_at numbers (at + length (all_numbers numbers items)) item ∷ []
rows-push numbers at [] item = let none : at + 0 ≡ at = omega arith in rw none refl
rows-push numbers at (first ∷ items) item =
    grind (arith, length-append, rows-push numbers (at + length (numbers first.pels)) items item)

length-rows_at : {N : Type 0} (numbers : List Colour → List N) (at : ℕ) (items : List RowItem)
    → length (rows_at numbers at items) ≡ length items
length-rows_at numbers at [] = refl
length-rows_at numbers at (first ∷ items) = ap suc (length-rows_at numbers (at + length (numbers first.pels)) items)

cursor-push : (from : Cursor) (items : List RowItem) (item : RowItem)
    → cursor_after_rows from (items ++ item ∷ []) ≡ cursor_after item
cursor-push from [] item = refl
cursor-push from (first ∷ items) item = cursor-push (cursor_after first) items item

-- so many rows of a walk are written, in so many numbers
pub record AreRowsWritten {N : Type 0} (numbers : List Colour → List N) (file : List ℕ) (origin : WalkStart)
    (walk : WalkView) (count used : ℕ) (old_rows rows : List FaxRow) (old out : List N) : Type 0 where
  pub items : List RowItem
  pub end : End
  pub tail : IsTailFrom file origin items end
  pub same_file : walk.file ≡ file
  pub same_started : walk.origin ≡ origin
  pub yielded : walk.yielded ≡ count
  pub few : count ≤ length items
  pub asked : count ≤ length old_rows
  pub used_is : used ≡ length (all_numbers numbers (take count items))
  pub room : used ≤ length out
  pub same_len : length out ≡ length old
  pub lie : rows ≡ rows_at numbers 0 (take count items) ++ drop count old_rows
  pub written : out ≡ all_numbers numbers (take count items) ++ drop used old

pub none_written : {N : Type 0} (numbers : List Colour → List N) (walk : WalkView) (rows : List FaxRow) (out : List N)
    → BeginningsHaveOneTail → walk.yielded ≡ 0 → AreRowsWritten numbers walk.file walk.origin walk 0 0 rows rows out out
none_written numbers walk rows out one none =
    let tail = one walk.file walk.origin in
    record {
      items = tail.items;
      end = tail.end;
      tail = tail.is;
      same_file = refl;
      same_started = refl;
      yielded = none;
      few = omega arith;
      asked = omega arith;
      used_is = refl;
      room = omega arith;
      same_len = refl;
      lie = refl;
      written = refl;
    }

module _ {N : Type 0} {numbers : List Colour → List N} {file : List ℕ} {origin : WalkStart} {walk : WalkView}
    {count used : ℕ} {old_rows rows : List FaxRow} {old out : List N} (law : BeginningsHaveOneTail)
    (so_far : AreRowsWritten numbers file origin walk count used old_rows rows old out) where
  tail_here : IsTailFrom walk.file walk.origin so_far.items so_far.end
  tail_here = grind arith

  item_is : (n : ℕ) (item : RowItem) → IsNumber (IsTailFrom walk.file walk.origin) n item
      → slice_get so_far.items n ≡ Some item
  item_is n item =
      number_is (IsTailFrom walk.file walk.origin) (law walk.file walk.origin) so_far.items so_far.end tail_here n item

  next_is : (item : RowItem) → IsNumber (IsTailFrom walk.file walk.origin) walk.yielded item
      → slice_get so_far.items count ≡ Some item
  next_is item number = rw so_far.yielded at (item_is walk.yielded item number)

  pub cursor_is : (at : Cursor) → IsCursorOf walk at → at ≡ cursor_after_rows (start_cursor origin)
      (take count so_far.items)
  cursor_is at (inl (none, is)) = grind arith
  cursor_is at (inr (before, item, given, number, is)) =
      let count_is : count ≡ before + 1 = sym so_far.yielded ∙ given in
      rw (count_is, is, take_at so_far.items before item (item_is before item number), cursor-push)

  pub one_more : (row : FaxRow) (new : WalkView) (new_out : List N) → count < length old_rows
      → IsPut numbers walk out used (Ok row) new new_out
      → AreRowsWritten numbers file origin new (count + 1) (used + row.len) old_rows (set rows count row) old new_out
  one_more row new new_out below (item, hands, row_is, put) =
      let here = next_is item hands.number in
      let inside = slice_get_within so_far.items count item here in
      let items = take count so_far.items in
      let front = all_numbers numbers items in
      let more = numbers item.pels in
      let len : row.len ≡ length more = ap (λ (r : FaxRow). r.len) row_is in
      let all : all_numbers numbers (take (count + 1) so_far.items) ≡ front ++ more =
      rw (take_at so_far.items count item here) (numbers-push numbers items item) in
      let written : new_out ≡ (front ++ more) ++ drop (used + length more) old =
      more_put front old out more new_out used (used + length more) (sym so_far.used_is) so_far.written refl put.2 in
      let count_is : length (rows_at numbers 0 items) ≡ count =
      rw (length-rows_at, length-take-le count so_far.items so_far.few) in
      let rows_are : rows_at numbers 0 (take (count + 1) so_far.items) ≡ rows_at numbers 0 items ++ row ∷ [] =
      rw (take_at so_far.items count item here, rows-push, zero-add, ← so_far.used_is, row_is) in
      let same_len : length new_out ≡ length old =
      rw (written, length-append, length-append, length-drop) (omega (arith, so_far.used_is, put.1, so_far.same_len)) in
      record {
        items = so_far.items;
        end = so_far.end;
        tail = so_far.tail;
        same_file = ap (λ (w : WalkView). w.file) hands.new_is ∙ so_far.same_file;
        same_started = ap (λ (w : WalkView). w.origin) hands.new_is ∙ so_far.same_started;
        yielded = ap (λ (w : WalkView). w.yielded) hands.new_is ∙ ap (λ n. n + 1) so_far.yielded;
        few = omega (arith, inside);
        asked = omega (arith, below);
        used_is = rw (all, length-append, len, ← so_far.used_is);
        room = omega (arith, len, put.1, same_len, so_far.same_len);
        same_len = same_len;
        lie = rw rows_are (one_set (rows_at numbers 0 items) old_rows rows count row count_is below so_far.lie);
        written = rw (all, len) written;
      }

  -- the same of a row that no table has
  pub put_row : (to : ℕ) (new : WalkView) (new_out : List N) → count < length old_rows
      → (put : IsPutTo numbers walk out used (Ok to) new new_out)
      → AreRowsWritten numbers file origin new (count + 1) to old_rows (set rows count (row_at numbers used put.0)) old
      new_out
  put_row to new new_out below (item, hands, put) =
      rw put.0 (one_more (row_at numbers used item) new new_out below (item, hands, refl, (rw put.0 at put)))

  stops : (stop : Stop) (new : WalkView) (new_out : List N) → count < length old_rows
      → IsPut numbers walk out used (Err stop) new new_out
      → StopsAfterRows numbers file origin so_far.items so_far.end (length old_rows) (length old) count used stop
      × (new_out ≡ out)
  stops Done new new_out below put = absurd put
  stops (Ended end) new new_out below ((ends, no_other, new_is), same) =
      let are = end_is (IsTailFrom walk.file walk.origin) (law walk.file walk.origin) so_far.items so_far.end tail_here
      walk.yielded end ends in
      ((below, sym so_far.yielded ∙ are.0, are.1), same)
  stops NoRoom new new_out below (item, hands, (same, small)) =
      ((below, (item, next_is item hands.number, omega (arith, small, so_far.same_len))), same)
  stops Memory new new_out below (enters, new_is, same) =
      ((below, inl (rw (so_far.same_file, so_far.same_started, so_far.yielded) at enters)), same)

  -- the rows so far are all, where there is a reason
  filled : (stop : Stop) (at : Cursor) → IsCursorOf walk at
      → StopsAfterRows numbers file origin so_far.items so_far.end (length old_rows) (length old) count used stop
      → AreRowsFilled numbers file origin old_rows old (record { cursor = at; count = count; used = used; stop = stop })
      rows out
  filled stop at is why = record {
    items = so_far.items;
    end = so_far.end;
    tail = so_far.tail;
    few = so_far.few;
    asked = so_far.asked;
    used = so_far.used_is;
    lie = so_far.lie;
    written = so_far.written;
    cursor = cursor_is at is;
    stops = why;
  }

  pub stopped : (stop : Stop) (new : WalkView) (new_out : List N) (at : Cursor) → count < length old_rows
      → IsPut numbers walk out used (Err stop) new new_out → IsCursorOf walk at
      → AreRowsFilled numbers file origin old_rows old (record { cursor = at; count = count; used = used; stop = stop })
      rows new_out
  stopped stop new new_out at below put is =
      let (why, same) = stops stop new new_out below put in rw same (filled stop at is why)

  pub all_asked : (at : Cursor) → length old_rows ≤ count → IsCursorOf walk at
      → AreRowsFilled numbers file origin old_rows old (record { cursor = at; count = count; used = used; stop = Done })
      rows out
  all_asked at all is = filled Done at is (omega (arith, so_far.asked, all))

  pub walk_stopped : (first : WalkView) (stop : Stop) (new : WalkView) (new_out : List N) (at : Cursor)
      → file ≡ first.file → origin ≡ first.origin → IsPut numbers walk out used (Err stop) new new_out
      → IsWalkAfter first (record { cursor = at; count = count; used = used; stop = stop }) new
  walk_stopped first stop new new_out at of begins put = grind arith

-- where memory is refused before a walk begins, nothing is written
module _ {N : Type 0} (numbers : List Colour → List N) (file : List ℕ) (origin : WalkStart) (at : Cursor)
    (rows : List FaxRow) (out : List N) (is : at ≡ start_cursor origin) where
  none_filled : (stop : Stop) (items : List RowItem) (end : End) → IsTailFrom file origin items end
      → StopsAfterRows numbers file origin items end (length rows) (length out) 0 0 stop
      → AreRowsFilled numbers file origin rows out (record { cursor = at; count = 0; used = 0; stop = stop }) rows out
  none_filled stop items end tail stops = record {
    items = items;
    end = end;
    tail = tail;
    few = omega arith;
    asked = omega arith;
    used = refl;
    lie = refl;
    written = refl;
    cursor = is;
    stops = stops;
  }

  pub refused_at_once : (stop : Stop) → BeginningsHaveOneTail → (HasPage file at.page → TakesRuns file origin 0)
      → IsRefusedAt file at (length rows) stop
      → AreRowsFilled numbers file origin rows out (record { cursor = at; count = 0; used = 0; stop = stop }) rows out
  refused_at_once Done one takes none =
      let tail = one file origin in none_filled Done tail.items tail.end tail.is (sym none)
  refused_at_once Memory one takes (some, page) =
      let tail = one file origin in none_filled Memory tail.items tail.end tail.is (some, inr (takes page))
  refused_at_once (Ended end) one takes (some, none) =
      none_filled (Ended end) [] end (Err end, rw (rw is at none), (refl, refl)) (some, refl, refl)
  refused_at_once NoRoom one takes refused = absurd refused
