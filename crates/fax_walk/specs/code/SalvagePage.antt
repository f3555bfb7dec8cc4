-- How a page is gone through, and what is returned of it.
use Rattle.std.specs.Prelude.{◌≡◌, ℕ, ◌+◌, ◌-◌, ◌<◌, ◌≤◌, Bool, true, false, if◌then◌else◌}
use Rattle.std.specs.Prelude.{List, [], ◌∷◌, Option, Some, None, unwrap_or, ⊤}
use Rattle.fax_rows.specs.Rows.{Colour}
use Rattle.fax_files.specs.Page.{most_rows}
use Rattle.fax_files.specs.views.Page.{IsPageForm}
use Rattle.fax_files.specs.views.Tiff.{TiffDirectory}
use Rattle.fax_walk.specs.declared.salvage.SalvageItem.{SalvageItem}
use Rattle.fax_walk.specs.declared.salvage.SalvageItem.TheVariants.{Row}
use Rattle.fax_walk.specs.declared.salvage.LostRows.{LostRows}
use Rattle.fax_walk.specs.Pages.{PageForm}
use Rattle.fax_walk.specs.Items.{exchanged}
use Rattle.fax_walk.specs.Salvaged.{PageRow, SalvagedItem, row_found, rows_lost}
use Rattle.fax_walk.specs.Salvaged.{page_items}
use Rattle.fax_walk.specs.code.SalvageItems.{AreRowsLeft, AreWholeBefore, IsBeforeRows}
use Rattle.fax_walk.specs.code.SalvageItems.{RowsState, StaysOnPage, upcoming_row}
use Rattle.fax_walk.specs.code.Stages.{IsRoomFor}
use Rattle.fax_walk.specs.views.SalvageItems.{item_of}

-- how far a page is gone through: its number, its rows, those that are lost before the next one,
-- whether the row before that one is found and waits, and the row that was found last
pub record SalvagePageState : Type 0 where
  pub page : ℕ
  pub rows : RowsState
  pub lost : Option LostRows
  pub waits : Bool
  pub shown : List Colour

-- the row that was found last, as it is returned: its colours exchanged, where there is a row for
-- that
abbrev pub shown_of : RowsState → Option (List Colour) → List Colour
shown_of rows shown = unwrap_or shown rows.reader.reference

-- how many rows a stretch has, if there is one
abbrev pub rows_of : Option LostRows → ℕ
rows_of None = 0
rows_of (Some stretch) = stretch.rows

-- a stretch has rows
abbrev pub HasSomeRows : Option LostRows → Type 0
HasSomeRows None = ⊤
HasSomeRows (Some stretch) = 0 < stretch.rows

-- a page is gone through
pub record IsGoneThrough (page : ℕ) (form : PageForm) (rows : RowsState) (row : ℕ)
    (lost : Option LostRows) (waits : Bool) (shown : Option (List Colour)) : Type 0 where
  pub limits : IsPageForm form
  pub form_is : rows.form ≡ form
  pub row_is : row ≡ upcoming_row rows
  pub within : row ≤ form.rows
  pub few : rows_of lost ≤ row
  pub some_lost : HasSomeRows lost
  pub room : IsRoomFor form shown
  pub some : waits ≡ true → 0 < row
  pub alone : waits ≡ true → lost ≡ None

-- the rows that are lost, before these items: they are one stretch with the rows that are lost
-- after them
abbrev pub with_lost : Option LostRows → List SalvagedItem → List SalvagedItem
with_lost None items = items
with_lost (Some s) (rows_lost _ _ count _ ∷ items) =
    rows_lost s.page s.row (s.rows + count) s.cause ∷ items
with_lost (Some s) items = rows_lost s.page s.row s.rows s.cause ∷ items

-- the next row on a page
abbrev pub row_after : SalvagePageState → ℕ
row_after state = upcoming_row state.rows

-- the row before it, as it is returned
abbrev pub item_before : SalvagePageState → SalvageItem
item_before state = Row (record { page = state.page; row = row_after state - 1 })

-- the row that waits, before these items
abbrev pub with_waiting : SalvagePageState → List SalvagedItem → List SalvagedItem
with_waiting state items =
    if state.waits then (row_found state.page (row_after state - 1) state.shown ∷ items) else items

-- at most so many items were returned of a page: each has a row of its own
abbrev pub yielded_of : SalvagePageState → ℕ
yielded_of state = row_after state - rows_of state.lost - (if state.waits then 1 else 0)

-- what is left of a page
abbrev pub IsLeftOnPage : SalvagePageState → List SalvagedItem → Type 0
IsLeftOnPage state items =
    (rows : List PageRow) × AreRowsLeft state.rows rows
    × (items ≡ with_waiting state
    (with_lost state.lost (page_items state.page (row_after state) rows)))

-- before the first row of a page
pub record IsPageStarted (directory : TiffDirectory) (form : PageForm) (page : ℕ)
    (state : SalvagePageState) : Type 0 where
  pub page_is : state.page ≡ page
  pub rows : IsBeforeRows directory form state.rows
  pub none : state.lost ≡ None
  pub no_row : state.waits ≡ false
  pub count : yielded_of state ≡ 0

-- the row that was found last is shown as it is returned
abbrev pub Shows : SalvagePageState → SalvagePageState → Type 0
Shows old new = new ≡ record old { shown = exchanged old.rows.form old.rows.reader.reference }

-- what a call for the next item answers
pub record GivesOfPage (old : SalvagePageState) (item : SalvageItem)
    (new : SalvagePageState) : Type 0 where
  pub page_is : new.page ≡ old.page
  pub stays : StaysOnPage old.rows new.rows
  pub count : yielded_of old < yielded_of new
  pub few : yielded_of new ≤ most_rows
  pub followed : (items : List SalvagedItem) → IsLeftOnPage new items
      → IsLeftOnPage old (item_of item new.shown ∷ items)

-- nothing is left of a page
pub record EndsOnPage (old new : SalvagePageState) : Type 0 where
  pub page_is : new.page ≡ old.page
  pub stays : StaysOnPage old.rows new.rows
  pub count : yielded_of new ≡ yielded_of old
  pub ended : IsLeftOnPage old []
  pub still : IsLeftOnPage new []
  pub none : (items : List SalvagedItem) → IsLeftOnPage new items → items ≡ []
  pub whole : new.rows.clean ≡ true
      → AreWholeBefore new.rows.directory new.rows.form new.rows.form.strips

abbrev pub YieldsOfPage : SalvagePageState → Option SalvageItem → SalvagePageState → Type 0
YieldsOfPage old None new = EndsOnPage old new
YieldsOfPage old (Some item) new = GivesOfPage old item new

-- rows of a page were gone over that are lost, and no row waits
pub record HasPassedLost (start now : SalvagePageState) : Type 0 where
  pub page_is : now.page ≡ start.page
  pub stays : StaysOnPage start.rows now.rows
  pub none_waits : now.waits ≡ false
  pub count : yielded_of now ≡ yielded_of start
  pub followed : (items : List SalvagedItem) → IsLeftOnPage now items → IsLeftOnPage start items
