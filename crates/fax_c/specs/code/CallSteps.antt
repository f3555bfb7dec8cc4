-- One step of a call: an item is written, or why it is not.
use Rattle.std.specs.Prelude.{◌≡◌, ◌≢◌, ℕ, ◌+◌, ◌<◌, ◌≤◌, ◌⊎◌, List, ◌++◌, length, take, drop}
use Rattle.std.specs.Prelude.{Option, Some, None, Result, Ok, Err, nat_lt, if◌then◌else◌}
use Rattle.fax_rows.specs.Rows.{Colour}
use Rattle.fax_walk.specs.declared.walk_start.WalkStart.{WalkStart}
use Rattle.fax_walk.specs.declared.cursor.Cursor.{Cursor}
use Rattle.fax_walk.specs.declared.end.End.{End}
use Rattle.fax_files.specs.declared.PageForm.{PageForm}
use Rattle.fax_walk.specs.Pages.{FormItem, IsFormTail, read_page, LongCursorValue}
use Rattle.fax_walk.specs.declared.end.End.TheVariants.{Fault, Outside, EndOfPages}
use Rattle.fax_walk.specs.declared.end.WalkFault.{WalkFault}
use Rattle.fax_walk.specs.declared.end.WalkFault.TheVariants.{AtRow, CursorOutside}
use Rattle.fax_walk.specs.declared.end.WalkFault.TheVariants.{Memory as Refused}
use Rattle.fax_walk.specs.Items.{RowItem, IsTailFrom}
use Rattle.fax_walk.specs.views.InOrder.{Yields, HasEndedAs}
use Rattle.fax_walk.specs.views.Pages.{PagesView, YieldsPage}
use Rattle.fax_walk.specs.views.Walk.{EntersPage, HasPage, WalkView, IsLongOf, row_limit}
use Rattle.fax_c.specs.declared.fill.Filled.{Filled}
use Rattle.fax_c.specs.declared.fill.Stop.{Stop}
use Rattle.fax_c.specs.declared.fill.Stop.TheVariants.{Done, Ended, Memory, NoRoom}
use Rattle.fax_c.specs.declared.places.FaxPlace.{FaxPlace}
use Rattle.fax_c.specs.declared.rows.FaxRow.{FaxRow}
use Rattle.fax_c.specs.views.Filled.{row_at}
use Rattle.fax_c.specs.views.Places.{HasRuns, KeepsRuns, place_started, long_place_of, most_runs}

-- why a reader returns nothing more
abbrev pub stop_of : WalkFault → Stop
stop_of (AtRow page row cause) = Ended (Fault page row cause)
stop_of CursorOutside = Ended Outside
stop_of Refused = Memory

-- the form of the page that is returned, or the end in its place
abbrev pub IsFormAnswered : PagesView → Result PageForm End → PagesView → Type 0
IsFormAnswered old (Ok form) new =
    (item : FormItem) × YieldsPage old item new × (form ≡ item.form)
IsFormAnswered old (Err end) new = HasEndedAs IsFormTail old end new

-- these numbers are written at a place, and where they end is returned, or they have no room
abbrev pub IsPutAt : {N : Type 0} → List N → List N → ℕ → Option ℕ → List N → Type 0
IsPutAt numbers old at None new = (new ≡ old) × (length old < at + length numbers)
IsPutAt numbers old at (Some to) new =
    (to ≡ at + length numbers) × (to ≤ length old) × (new ≡ take at old ++ numbers ++ drop to old)

-- the row that is returned is written at a place, or why it is not
abbrev pub IsPut : {N : Type 0} → (List Colour → List N) → WalkView → List N → ℕ
    → Result FaxRow Stop → WalkView → List N → Type 0
IsPut numbers walk old at (Ok row) new_walk new =
    (item : RowItem) × Yields IsTailFrom row_limit walk item new_walk
    × (row ≡ row_at numbers at item)
    × IsPutAt (numbers item.pels) old at (Some (at + length (numbers item.pels))) new
IsPut numbers walk old at (Err NoRoom) new_walk new =
    (item : RowItem) × Yields IsTailFrom row_limit walk item new_walk
    × IsPutAt (numbers item.pels) old at None new
IsPut numbers walk old at (Err (Ended end)) new_walk new =
    HasEndedAs IsTailFrom walk end new_walk × (new ≡ old)
IsPut numbers walk old at (Err Memory) new_walk new =
    EntersPage walk.file walk.origin walk.yielded × (new_walk ≡ walk) × (new ≡ old)
IsPut numbers walk old at (Err Done) new_walk new = ⊥

-- the row that is returned is written at a place, and where it ends is returned, or why it is not
abbrev pub IsPutTo : {N : Type 0} → (List Colour → List N) → WalkView → List N → ℕ
    → Result ℕ Stop → WalkView → List N → Type 0
IsPutTo numbers walk old at (Ok to) new_walk new =
    (item : RowItem) × Yields IsTailFrom row_limit walk item new_walk
    × IsPutAt (numbers item.pels) old at (Some to) new
IsPutTo numbers walk old at (Err stop) new_walk new =
    IsPut numbers walk old at (Err stop) new_walk new

-- a walk after so many of its rows were written: one row further where that one has no room
pub record IsWalkAfter (old : WalkView) (filled : Filled) (new : WalkView) : Type 0 where
  pub same_file : new.file ≡ old.file
  pub same_started : new.origin ≡ old.origin
  pub yielded : filled.stop ≢ NoRoom → new.yielded ≡ filled.count

-- a walk begins at a place, which lacks no runs
abbrev pub StartsAt : WalkStart → FaxPlace → List ℕ → Type 0
StartsAt origin place runs = (origin ≡ place_started place runs) × (place.runs ≤ length runs)

-- the place inside a strip after the rows that a walk has returned is reported, or there is none,
-- or its runs have no room; no run is changed that the place of no row would take
abbrev pub IsInsideTold : WalkView → FaxPlace → List ℕ → FaxPlace → List ℕ → Type 0
IsInsideTold walk old old_runs new runs =
    KeepsRuns old_runs runs
    × (((new ≡ old)
    × (IsLongOf walk None
    ⊎ ((found : LongCursorValue) × IsLongOf walk (Some found) × (length runs < length found.runs))))
    ⊎ (HasRuns new runs × IsLongOf walk (Some (long_place_of new runs))))

-- a place inside a strip is reported with its runs, no more than a row can have, and no other run
-- is changed; or these have no room, or are more than a row can have
abbrev pub IsPlaceTold : LongCursorValue → FaxPlace → List ℕ → ℕ → FaxPlace → List ℕ → Type 0
IsPlaceTold found old old_runs status new runs =
    ((status ≡ 0) × HasRuns new runs × (new.runs ≤ most_runs) × (long_place_of new runs ≡ found)
    × (drop new.runs runs ≡ drop new.runs old_runs))
    ⊎ ((new ≡ old) × (runs ≡ old_runs)
    × (((status ≡ 5) × (length old_runs < length found.runs)
    × (length found.runs ≤ most_runs))
    ⊎ ((status ≡ 6) × (most_runs < length found.runs))))

-- how the rows end at a row of a page that a file has not, where they end so at its first row: only
-- row 0 of the page after the last one is a place
abbrev pub end_at_row : End → ℕ → End
end_at_row EndOfPages row = if nat_lt 0 row then Outside else EndOfPages
end_at_row end row = end

-- why a call stops at a cursor that was refused memory for the runs there: no row was asked for; or
-- some were, and the file has the page, or it has not, and the rows end so
abbrev pub IsRefusedAt : List ℕ → Cursor → ℕ → Stop → Type 0
IsRefusedAt file at asked Done = asked ≡ 0
IsRefusedAt file at asked Memory = (0 < asked) × HasPage file at.page
IsRefusedAt file at asked (Ended end) = (0 < asked) × (read_page file at ≡ Err end)
IsRefusedAt file at asked NoRoom = ⊥
