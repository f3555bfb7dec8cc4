-- Rows that are written one after another, each as numbers.
-- A definition without a citation is this project's profile.
use Rattle.std.specs.Prelude.{◌≡◌, ℕ, ◌+◌, ◌<◌, ◌≤◌, ◌⊎◌, List, [], ◌∷◌, ◌++◌, length, take, drop}
use Rattle.std.specs.Prelude.{flat_map, slice_get, Some}
use Rattle.fax_rows.specs.Rows.{Colour}
use Rattle.fax_walk.specs.declared.walk_start.WalkStart.{WalkStart}
use Rattle.fax_walk.specs.declared.walk_start.WalkStart.TheVariants.{AtCursor, AtLongCursor}
use Rattle.fax_walk.specs.declared.cursor.Cursor.{Cursor}
use Rattle.fax_walk.specs.declared.end.End.{End}
use Rattle.fax_walk.specs.Items.{RowItem, IsTailFrom, start_cursor, cursor_after}
use Rattle.fax_walk.specs.views.Walk.{EntersPage, HasPage}
use Rattle.fax_c.specs.declared.fill.Filled.{Filled}
use Rattle.fax_c.specs.declared.fill.Stop.{Stop}
use Rattle.fax_c.specs.declared.fill.Stop.TheVariants.{Done, Ended, Memory, NoRoom}
use Rattle.fax_c.specs.declared.rows.FaxRow.{FaxRow}
use Rattle.fax_c.specs.declared.told.FaxTold.{FaxTold}
use Rattle.fax_c.specs.Told.{IsTold}

-- the numbers of rows, one after another
abbrev pub all_numbers : {N : Type 0} → (List Colour → List N) → List RowItem → List N
all_numbers numbers = flat_map (λ item. numbers item.pels)

-- where a row lies whose numbers begin at a place
abbrev pub row_at : {N : Type 0} → (List Colour → List N) → ℕ → RowItem → FaxRow
row_at numbers at item = record {
  at = at;
  len = length (numbers item.pels);
  page = item.page;
  row = item.row;
  width = length item.pels;
}

-- where each of these rows lies, from a place on
abbrev pub rows_at : {N : Type 0} → (List Colour → List N) → ℕ → List RowItem → List FaxRow
rows_at numbers at [] = []
rows_at numbers at (item ∷ items) =
    row_at numbers at item ∷ rows_at numbers (at + length (numbers item.pels)) items

-- the cursor after rows, which began so
abbrev pub cursor_after_rows : Cursor → List RowItem → Cursor
cursor_after_rows from [] = from
cursor_after_rows from (item ∷ items) = cursor_after_rows (cursor_after item) items

-- no row was written yet of what begins at a place inside a strip, whose runs are copied first, and
-- the file has its page
abbrev pub TakesRuns : List ℕ → WalkStart → ℕ → Type 0
TakesRuns file (AtCursor at) count = ⊥
TakesRuns file (AtLongCursor place) count = (count ≡ 0) × HasPage file place.at.page

-- so many of these rows are written, of which so many were asked for, in so many numbers of so
-- many: all of them; or fewer, since there are no more, or the next one has no room, or memory was
-- refused where a page is entered, or for the runs of a place
abbrev pub StopsAfterRows : {N : Type 0} → (List Colour → List N) → List ℕ → WalkStart
    → List RowItem
    → End → ℕ → ℕ → ℕ → ℕ → Stop → Type 0
StopsAfterRows numbers file origin items end asked room count used Done = count ≡ asked
StopsAfterRows numbers file origin items end asked room count used (Ended met) =
    (count < asked) × (count ≡ length items) × (met ≡ end)
StopsAfterRows numbers file origin items end asked room count used NoRoom =
    (count < asked)
    × ((item : RowItem) × (slice_get items count ≡ Some item)
    × (room < used + length (numbers item.pels)))
StopsAfterRows numbers file origin items end asked room count used Memory =
    (count < asked) × (EntersPage file origin count ⊎ TakesRuns file origin count)

-- the first rows of what a walk returns that begins so are written, one after another, and where
-- each lies, and nothing else is changed
pub record AreRowsFilled {N : Type 0} (numbers : List Colour → List N) (file : List ℕ)
    (origin : WalkStart) (old_rows : List FaxRow) (old_out : List N) (filled : Filled)
    (rows : List FaxRow) (out : List N) : Type 0 where
  pub items : List RowItem
  pub end : End
  pub tail : IsTailFrom file origin items end
  pub few : filled.count ≤ length items
  pub asked : filled.count ≤ length old_rows
  pub used : filled.used ≡ length (all_numbers numbers (take filled.count items))
  pub lie : rows ≡ rows_at numbers 0 (take filled.count items) ++ drop filled.count old_rows
  pub written : out ≡ all_numbers numbers (take filled.count items) ++ drop filled.used old_out
  pub cursor : filled.cursor ≡ cursor_after_rows (start_cursor origin) (take filled.count items)
  pub stops : StopsAfterRows numbers file origin items end (length old_rows) (length old_out)
      filled.count filled.used filled.stop

-- rows are written and reported
abbrev pub TellsRows : {N : Type 0} → (List Colour → List N) → List ℕ → WalkStart → List FaxRow
    → List N
    → List FaxRow → List N → FaxTold → ℕ → Type 0
TellsRows numbers file origin old_rows old_out rows out told status =
    (filled : Filled) × AreRowsFilled numbers file origin old_rows old_out filled rows out
    × IsTold filled told status
