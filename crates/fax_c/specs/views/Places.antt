-- Places inside strips, in memory of the caller.
-- A definition without a citation is this project's profile.
use Rattle.std.specs.Prelude.{◌≡◌, ℕ, ◌<◌, ◌≤◌, ◌⊎◌, nat_lt, if◌then◌else◌}
use Rattle.std.specs.Prelude.{List, length, take, drop, Some, None}
use Rattle.fax_rows.specs.Rows.{Colour}
use Rattle.fax_walk.specs.declared.walk_start.WalkStart.{WalkStart}
use Rattle.fax_walk.specs.declared.walk_start.WalkStart.TheVariants.{AtCursor, AtLongCursor}
use Rattle.fax_walk.specs.declared.cursor.Cursor.{Cursor}
use Rattle.fax_walk.specs.declared.end.End.TheVariants.{Outside}
use Rattle.fax_walk.specs.Pages.{LongCursorValue}
use Rattle.fax_walk.specs.views.Walk.{IsLongOf, WalkView}
use Rattle.fax_c.specs.declared.fill.Filled.{Filled}
use Rattle.fax_c.specs.declared.fill.Stop.TheVariants.{Ended}
use Rattle.fax_c.specs.declared.places.FaxPlace.{FaxPlace}
use Rattle.fax_c.specs.declared.rows.FaxRow.{FaxRow}
use Rattle.fax_c.specs.declared.told.FaxTold.{FaxTold}
use Rattle.fax_c.specs.Told.{IsTold, none_filled_at}
use Rattle.fax_c.specs.views.Filled.{AreRowsFilled}

-- the cursor of a place
abbrev pub cursor_of : FaxPlace → Cursor
cursor_of place = record { page = place.page; row = place.row }

-- a place and its runs, which stand apart, as a place inside a strip
abbrev pub long_place_of : FaxPlace → List ℕ → LongCursorValue
long_place_of place runs =
    record { at = cursor_of place; bits = place.bits; runs = take place.runs runs }

-- a cursor alone, as a place
abbrev pub place_at : Cursor → FaxPlace
place_at at = record { page = at.page; row = at.row; bits = 0; runs = 0 }

-- a place is inside a strip, and its runs stand beside it
abbrev pub HasRuns : FaxPlace → List ℕ → Type 0
HasRuns place runs = (0 < place.runs) × (place.runs ≤ length runs)

-- a place has more runs than stand beside it
abbrev pub LacksRuns : FaxPlace → List ℕ → Type 0
LacksRuns place runs = length runs < place.runs

-- what a walk begins with at a place: inside a strip where that has runs, else at the cursor
abbrev pub place_started : FaxPlace → List ℕ → WalkStart
place_started place runs =
    if nat_lt 0 place.runs then AtLongCursor (long_place_of place runs)
    else AtCursor (cursor_of place)

-- a walk that began so, after so many rows
abbrev pub walk_after : List ℕ → WalkStart → ℕ → WalkView
walk_after file origin count = record {
  file = file;
  origin = origin;
  yielded = count;
  final_end =
      None;
}

-- why the cursor alone is reported: there is no place inside a strip, or its runs have no room
abbrev pub IsCursorAlone : List ℕ → WalkStart → ℕ → ℕ → Type 0
IsCursorAlone file origin count room =
    IsLongOf (walk_after file origin count) None
    ⊎ ((found : LongCursorValue) × IsLongOf (walk_after file origin count) (Some found)
    × (room < length found.runs))

-- the place after so many rows of what a walk returns that began so, with this cursor after them:
-- inside a strip, with its runs, or the cursor alone where there is a reason
abbrev pub IsAfterRows : List ℕ → WalkStart → Cursor → ℕ → FaxPlace → List ℕ → Type 0
IsAfterRows file origin cursor count place runs =
    (HasRuns place runs
    × IsLongOf (walk_after file origin count) (Some (long_place_of place runs)))
    ⊎ ((place ≡ place_at cursor) × IsCursorAlone file origin count (length runs))

-- so many runs hold those of any row
abbrev pub most_runs : ℕ
most_runs = 65536

-- no run is changed that the place of no row would take
abbrev pub KeepsRuns : List ℕ → List ℕ → Type 0
KeepsRuns old_runs runs =
    (drop most_runs runs ≡ drop most_runs old_runs) × (length runs ≡ length old_runs)

-- the place after the rows that were written; where there are none, no run is changed
abbrev pub IsAfter : List ℕ → WalkStart → Filled → List ℕ → FaxPlace → List ℕ → Type 0
IsAfter file origin filled old_runs place runs =
    KeepsRuns old_runs runs × (filled.count ≡ 0 → runs ≡ old_runs)
    × IsAfterRows file origin filled.cursor filled.count place runs

-- memory of the caller that is read and written: a place with its runs, and numbers of rows with a
-- table of where they lie
pub record RowsMemory (N : Type 0) : Type 0 where
  pub place : FaxPlace
  pub runs : List ℕ
  pub rows : List FaxRow
  pub out : List N

-- rows from a place on are written and reported, and the place is the one after them; or the place
-- lacks runs, which is reported as a place outside the file, and nothing is changed
abbrev pub GoesOn : {N : Type 0} → (List Colour → List N) → List ℕ → RowsMemory N → RowsMemory N
    → FaxTold → ℕ → Type 0
GoesOn numbers file old new told status =
    let origin = place_started old.place old.runs in
    ((old.place.runs ≤ length old.runs) × (filled : Filled)
    × AreRowsFilled numbers file origin old.rows old.out filled new.rows new.out
    × IsAfter file origin filled old.runs new.place new.runs × IsTold filled told status)
    ⊎ (LacksRuns old.place old.runs × (new ≡ old)
    × IsTold (none_filled_at (cursor_of old.place) (Ended Outside)) told status)
