-- A walk, as contracts see it.
use Rattle.std.specs.Prelude.{◌≡◌, ℕ, ◌+◌, ◌^◌, ◌<◌, ◌≤◌, ◌⊎◌, List, Option, Some, None, Result, Ok}
use Rattle.std.specs.Prelude.{Err, ⊤, MatchResult}
use Rattle.std.specs.Borrow.{Bor}
use Rattle.fax_bits.specs.declared.Colour.{Colour}
use Rattle.fax_walk.specs.declared.walk_start.WalkStart.{WalkStart}
use Rattle.fax_walk.specs.declared.walk_start.WalkStart.TheVariants.{AtCursor, AtLongCursor}
use Rattle.fax_walk.specs.declared.cursor.Cursor.{Cursor}
use Rattle.fax_walk.specs.declared.end.End.{End}
use Rattle.fax_walk.specs.declared.end.End.TheVariants.{EndOfPages, Fault, Outside}
use Rattle.fax_walk.specs.declared.end.WalkFault.{WalkFault}
use Rattle.fax_walk.specs.declared.end.WalkFault.TheVariants.{Memory, AtRow, CursorOutside}
use Rattle.fax_walk.specs.declared.walk.Place.{Place}
use Rattle.fax_walk.specs.declared.walk.LongCursorRef.{LongCursorRef}
use Rattle.fax_rows.specs.Rows.{runs_of}
use Rattle.fax_walk.specs.Pages.{start, LongCursorValue}
use Rattle.fax_walk.specs.views.InOrder.{Reading, reading_from, Yields, HasEndedAs, IsAfterLast}
use Rattle.fax_walk.specs.views.InOrder.{IsNumber}
use Rattle.fax_walk.specs.Pages.{read_page}
use Rattle.fax_walk.specs.Items.{RowItem, RowPosition, StartsBy, IsTailFrom, start_cursor}
use Rattle.fax_walk.specs.Items.{cursor_after, long_after}

-- a walk: its file, what it began with, how many rows it returned, and how the rows ended, once it
-- reported that
abbrev pub WalkView : Type 0
WalkView = Reading WalkStart

-- a walk that begins so, before its first item
abbrev pub walk_from : List ℕ → WalkStart → WalkView
walk_from = reading_from

-- a walk before the first item of its file
abbrev pub walk_start : List ℕ → WalkView
walk_start file = walk_from file (AtCursor start)

-- item number n of what a walk returns that began so
abbrev pub IsItemNumber : List ℕ → WalkStart → ℕ → RowItem → Type 0
IsItemNumber file origin n item = IsNumber (IsTailFrom file origin) n item

-- a file has a page of this number, whose fields have no fault
abbrev pub HasPage : List ℕ → ℕ → Type 0
HasPage file p = MatchResult (read_page file (record { page = p; row = 0 })) (λ here. ⊤) (λ end. ⊥)

-- a page is entered with what a walk begins with: that of its cursor, which the file has; or the
-- one after that, which the file has too, where it is a cursor alone, after its page's last row
abbrev pub EntersFirst : List ℕ → WalkStart → Type 0
EntersFirst file origin =
    let at = start_cursor origin in
    MatchResult (read_page file at)
    (λ here. (at.row < here.form.rows)
    ⊎ ((origin ≡ AtCursor at) × (at.row ≡ here.form.rows) × HasPage file (at.page + 1))) (λ end. ⊥)

-- a page is entered with item number n: it is the first one; or the one before it was its page's
-- last row, and the file has a page after that
abbrev pub EntersPage : List ℕ → WalkStart → ℕ → Type 0
EntersPage file origin n =
    ((n ≡ 0) × EntersFirst file origin)
    ⊎ ((before : ℕ) × (item : RowItem) × (n ≡ before + 1)
    × IsItemNumber file origin before item × (item.row + 1 ≡ item.form.rows)
    × HasPage file (item.page + 1))

-- fewer rows are returned: of at most as many pages as the file has bytes, each of 1,000,000 rows
abbrev pub row_limit : ℕ
row_limit = 2 ^ 53

-- a row that is lent, with its place, is this item
abbrev pub IsLent : Place × Bor (List Colour) → RowItem → Type 0
IsLent found item =
    (item.page ≡ found.0.page) × (item.row ≡ found.0.row) × (item.pels ≡ found.1.now)

-- what a call for the next row answers, and what it leaves: item number `yielded`, or the end
abbrev pub IsNext : WalkView → Result (Option (Place × Bor (List Colour))) WalkFault → WalkView
    → Type 0
IsNext old (Ok (Some found)) new =
    (item : RowItem) × Yields IsTailFrom row_limit old item new × IsLent found item
IsNext old (Ok None) new = HasEndedAs IsTailFrom old EndOfPages new
IsNext old (Err (AtRow page row cause)) new = HasEndedAs IsTailFrom old (Fault page row cause) new
IsNext old (Err CursorOutside) new = HasEndedAs IsTailFrom old Outside new
IsNext old (Err Memory) new =
    (new ≡ old) × (old.final_end ≡ None) × EntersPage old.file old.origin old.yielded

-- the cursor after the row that was returned last, or the one that the walk began with
abbrev pub IsCursorOf : WalkView → Cursor → Type 0
IsCursorOf walk = IsAfterLast IsTailFrom walk start_cursor cursor_after

-- the place inside a strip that a walk began with, if it did
abbrev pub start_place : WalkStart → Option LongCursorValue
start_place (AtCursor at) = None
start_place (AtLongCursor place) = Some place

-- the place inside a strip after the row that was returned last, or the one that the walk began
-- with, if there is one
abbrev pub IsLongOf : WalkView → Option LongCursorValue → Type 0
IsLongOf walk = IsAfterLast IsTailFrom walk start_place long_after

-- a place inside a strip that is lent, if there is one, with the runs of the row before it
abbrev pub place_inside : Option LongCursorRef → Option LongCursorValue
place_inside None = None
place_inside (Some lent) =
    Some (record { at = lent.at; bits = lent.bits; runs = runs_of lent.reference.now })

-- where a walk begins in its file, and how many rows it reads there that it does not return
abbrev pub Begins : List ℕ → WalkStart → Result (RowPosition × ℕ) End → Type 0
Begins file origin begin = StartsBy file origin begin (read_page file (start_cursor origin))

-- their number, which is 0 where there is nothing but an end
abbrev pub dropped : Result (RowPosition × ℕ) End → ℕ
dropped (Ok from) = from.1
dropped (Err none) = 0

-- so many rows stand in its strip before what a walk begins with: those above the cursor's, and
-- none where that stands after its page's last row, where its page is not there, or inside a strip
abbrev pub AreBeforeIt : List ℕ → WalkStart → ℕ → Type 0
AreBeforeIt file origin count =
    (begin : Result (RowPosition × ℕ) End) × Begins file origin begin × (count ≡ dropped begin)

-- the rows end on the cursor's page, before its row
abbrev pub EndsBefore : End → Cursor → Type 0
EndsBefore EndOfPages at = ⊥
EndsBefore Outside at = ⊥
EndsBefore (Fault page row cause) at = (page ≡ at.page) × (row < at.row)

-- so many rows were read: those that were returned, and those before the first of them in its
-- strip; where none was returned yet, at most these, and where the rows have ended, all of them,
-- but where one of these cannot be read
pub record AreRead (walk : WalkView) (read : ℕ) : Type 0 where
  pub before : ℕ
  pub are_before : AreBeforeIt walk.file walk.origin before
  pub most : read ≤ walk.yielded + before
  pub all : 0 < walk.yielded → read ≡ walk.yielded + before
  pub final_end : (end : End) → walk.final_end ≡ Some end
      → (read ≡ walk.yielded + before) ⊎ EndsBefore end (start_cursor walk.origin)
