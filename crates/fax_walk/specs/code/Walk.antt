-- How far a walk has come.
use Rattle.std.specs.Prelude.{◌≡◌, ℕ, ◌+◌, ◌-◌, ◌^◌, ◌<◌, ◌⊎◌, Bool, true, false, List, [], length}
use Rattle.std.specs.Prelude.{Option}
use Rattle.std.specs.Prelude.{Some, None, Result, Ok, Err, ⊤}
use Rattle.fax_walk.specs.declared.walk_start.WalkStart.{WalkStart}
use Rattle.fax_walk.specs.declared.cursor.Cursor.{Cursor}
use Rattle.fax_walk.specs.declared.end.End.{End}
use Rattle.fax_walk.specs.declared.end.End.TheVariants.{EndOfPages, Fault, Outside}
use Rattle.fax_walk.specs.declared.end.WalkFault.{WalkFault}
use Rattle.fax_walk.specs.declared.end.WalkFault.TheVariants.{Memory, AtRow, CursorOutside}
use Rattle.fax_walk.specs.declared.walk.LastRow.{LastRow}
use Rattle.fax_walk.specs.declared.opening.OpenFault.{OpenFault}
use Rattle.fax_walk.specs.declared.opening.OpenFault.TheVariants.{Memory as NoMemory, Ended}
use Rattle.fax_walk.specs.laws.InOrder.{LeadTo}
use Rattle.fax_walk.specs.Items.{RowItem, RowPosition, IsRow, IsTailFrom, start_cursor}
use Rattle.fax_walk.specs.Items.{cursor_after}
use Rattle.fax_walk.specs.Items.{place_after}
use Rattle.fax_walk.specs.views.InOrder.{HasEndedAs}
use Rattle.fax_walk.specs.views.Walk.{WalkView, IsItemNumber, EntersFirst, EntersPage, HasPage}
use Rattle.fax_walk.specs.views.Walk.{AreRead, Begins, EndsBefore, IsLent}
use Rattle.fax_files.specs.views.Page.{IsPageForm}
use Rattle.fax_walk.specs.views.Walk.{walk_from}
use Rattle.fax_walk.specs.code.Stages.{PageState, row_of, skipped, place_of, IsOpen, IsOpenedAt}
use Rattle.fax_walk.specs.code.Stages.{IsOpenedFrom, IsRefusal}
use Rattle.fax_walk.specs.Pages.{ends_as}

-- the first page of a walk was opened
pub record IsOpenedFirst (file : List ℕ) (origin : WalkStart) (page : PageState) : Type 0 where
  pub first : RowPosition
  pub dropped : ℕ
  pub begins : Begins file origin (Ok (first, dropped))
  pub from : IsOpenedFrom file first dropped (start_cursor origin) page

-- a walk that begins so returns no row, and none is read
pub record HasNoRows (file : List ℕ) (origin : WalkStart) (end : End) : Type 0 where
  pub tail : IsTailFrom file origin [] end
  pub read : AreRead (record (walk_from file origin) { final_end = Some end }) 0

-- the page whose rows can be read, if one was opened
abbrev pub IsOpenOrNone : Option PageState → Type 0
IsOpenOrNone None = ⊤
IsOpenOrNone (Some page) = IsOpen page

-- the rows of the page are all read, if one was opened
abbrev pub IsReadOrNone : Option PageState → Type 0
IsReadOrNone None = ⊤
IsReadOrNone (Some page) = row_of page ≡ page.form.rows

-- a page is open that has rows which are not read
abbrev pub IsUpcomingOn : Option PageState → Type 0
IsUpcomingOn None = ⊥
IsUpcomingOn (Some page) = row_of page < page.form.rows

-- how many pages are opened before the next row is read
abbrev pub pages_to_open : Option PageState → ℕ
pages_to_open None = 1
pages_to_open (Some page) = 1 - (page.form.rows - row_of page)

-- the page of the next row was opened, or there is none
abbrev pub IsEntered : List ℕ → WalkStart → Option PageState → Result Unit OpenFault
    → Option PageState
    → Type 0
IsEntered file origin None (Ok tt) (Some new) = IsOpenedFirst file origin new
IsEntered file origin None (Err fault) new =
    IsRefusal (HasNoRows file origin) fault × (fault ≡ NoMemory → EntersFirst file origin)
    × (new ≡ None)
IsEntered file origin (Some old) (Ok tt) (Some new) =
    (row_of old ≡ old.form.rows) × IsOpenedAt old.directory.file (place_of old) 0 old.read new
IsEntered file origin (Some old) (Err fault) new =
    (row_of old ≡ old.form.rows)
    × IsRefusal (λ end. IsRow old.directory.file (place_of old) (ends_as end)) fault
    × (fault ≡ NoMemory → HasPage old.directory.file (old.page + 1)) × (new ≡ Some old)
IsEntered file origin old (Ok tt) None = ⊥

-- these items lead to a place from where a walk began: those that it returned, and those before the
-- first of them in its strip, but for the ones that it still skips
pub record HasCome (file : List ℕ) (origin : WalkStart) (yielded read skips : ℕ)
    (to : RowPosition) : Type 0 where
  pub first : RowPosition
  pub dropped : ℕ
  pub begins : Begins file origin (Ok (first, dropped))
  pub items : List RowItem
  pub lead : LeadTo (IsRow file) first items to
  pub count : length items ≡ read
  pub total : read + skips ≡ yielded + dropped
  pub none_left : 0 < yielded → skips ≡ 0

-- the item that was returned last, after which the cursor stands, leads to this place
pub record IsAfterItem (file : List ℕ) (origin : WalkStart) (yielded : ℕ) (cursor : Cursor)
    (to : RowPosition) : Type 0 where
  pub before : ℕ
  pub item : RowItem
  pub count : yielded ≡ before + 1
  pub number : IsItemNumber file origin before item
  pub within : item.row < item.form.rows
  pub cursor_is : cursor ≡ cursor_after item
  pub to_is : to ≡ place_after item

-- the cursor stands where the walk began, or after the item that was returned last
abbrev pub StandsAt : List ℕ → WalkStart → ℕ → Cursor → RowPosition → Type 0
StandsAt file origin yielded cursor to =
    ((yielded ≡ 0) × (cursor ≡ start_cursor origin)) ⊎ IsAfterItem file origin yielded cursor to

-- a walk that returned so many rows has come as far as this page, of which it skips rows only
-- before its first
pub record HasReadTo (file : List ℕ) (origin : WalkStart) (yielded : ℕ) (cursor : Cursor)
    (page : PageState) : Type 0 where
  pub file_is : page.directory.file ≡ file
  pub come : HasCome file origin yielded page.read (skipped page) (place_of page)
  pub stands : StandsAt file origin yielded cursor (place_of page)
  pub named : 0 < skipped page
      → (page.page ≡ (start_cursor origin).page) × (page.first ≡ (start_cursor origin).row)

-- a walk that returned so many rows continues from here: it has opened no page, or this one
abbrev pub GoesOnFrom : List ℕ → WalkStart → ℕ → Cursor → Option PageState → Type 0
GoesOnFrom file origin yielded cursor None = (yielded ≡ 0) × (cursor ≡ start_cursor origin)
GoesOnFrom file origin yielded cursor (Some page) = IsOpen page
    × HasReadTo file origin yielded cursor
    page

-- the row that was returned last is the one that this page shows
pub record IsShown (file : List ℕ) (origin : WalkStart) (yielded : ℕ) (cursor : Cursor)
    (page : PageState) : Type 0 where
  pub last : IsAfterItem file origin yielded cursor (place_of page)
  pub pels : last.item.pels ≡ page.shown
  pub form : last.item.form ≡ page.form
  pub few : yielded < 2 ^ 53

abbrev pub ShowsLast : List ℕ → WalkStart → ℕ → Cursor → Option PageState → Type 0
ShowsLast file origin yielded cursor None = yielded ≡ 0
ShowsLast file origin yielded cursor (Some page) = IsShown file origin yielded cursor page

-- the row that was returned last is lent with its form, if one was
abbrev pub IsLastOf : WalkView → Option LastRow → Type 0
IsLastOf walk None = walk.yielded ≡ 0
IsLastOf walk (Some last) =
    (before : ℕ) × (item : RowItem) × (walk.yielded ≡ before + 1)
    × IsItemNumber walk.file walk.origin before item × IsLent (last.place, last.row) item
    × (item.form ≡ last.form.now) × IsPageForm last.form.now

-- the rows have ended so, on this page, if one is open
abbrev pub HasEndedOn : List ℕ → WalkStart → ℕ → Cursor → Option PageState → End → Type 0
HasEndedOn file origin yielded cursor None end =
    (yielded ≡ 0) × (cursor ≡ start_cursor origin) × HasNoRows file origin end
HasEndedOn file origin yielded cursor (Some page) end =
    HasReadTo file origin yielded cursor page × IsRow file (place_of page) (ends_as end)
    × ((skipped page ≡ 0) ⊎ EndsBefore end (start_cursor origin))

-- the cursor of the next row on a page
abbrev pub cursor_on : PageState → Cursor
cursor_on page = record { page = page.page; row = row_of page }

-- what a walk that returned so many rows reads next: item number `yielded`, or how the rows end
abbrev pub IsReadNext : List ℕ → WalkStart → Option PageState → Result Unit OpenFault
    → Option PageState → Type 0
IsReadNext file origin old (Ok done) None = ⊥
IsReadNext file origin old (Ok done) (Some new) =
    (yielded : ℕ) (cursor : Cursor) → GoesOnFrom file origin yielded cursor old
    → GoesOnFrom file origin (yielded + 1) (cursor_on new) (Some new)
    × IsShown file origin (yielded + 1) (cursor_on new) new
IsReadNext file origin old (Err NoMemory) new =
    (new ≡ old)
    × ((yielded : ℕ) (cursor : Cursor) → GoesOnFrom file origin yielded cursor old
    → EntersPage file origin yielded)
IsReadNext file origin old (Err (Ended end)) new =
    (yielded : ℕ) (cursor : Cursor) → GoesOnFrom file origin yielded cursor old
    → HasEndedOn file origin yielded cursor new end

-- a walk has returned the first of its items, and continues, or has ended
abbrev pub IsSound : List ℕ → WalkStart → ℕ → Cursor → Option PageState → Option End → Type 0
IsSound file origin yielded cursor page None =
    GoesOnFrom file origin yielded cursor page × ShowsLast file origin yielded cursor page
IsSound file origin yielded cursor page (Some end) = HasEndedOn file origin yielded cursor page end

-- what a call returns that continues, where the rows or the pages have ended so
abbrev pub answer_of : End → Result Bool WalkFault
answer_of EndOfPages = Ok false
answer_of (Fault page row cause) = Err (AtRow page row cause)
answer_of Outside = Err CursorOutside

-- what a call that goes to the next row answers, and what it leaves
abbrev pub IsAdvance : WalkView → Result Bool WalkFault → WalkView → Type 0
IsAdvance old (Ok true) new =
    (old.final_end ≡ None) × (old.yielded + 1 < 2 ^ 53) × (new
    ≡ record old { yielded = old.yielded + 1 })
IsAdvance old (Ok false) new = HasEndedAs IsTailFrom old EndOfPages new
IsAdvance old (Err (AtRow page row cause)) new =
    HasEndedAs IsTailFrom old (Fault page row cause) new
IsAdvance old (Err CursorOutside) new = HasEndedAs IsTailFrom old Outside new
IsAdvance old (Err Memory) new =
    (new ≡ old) × (old.final_end ≡ None) × EntersPage old.file old.origin old.yielded
