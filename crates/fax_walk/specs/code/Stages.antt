-- A page that is open, and what it is to read on in it.
use Rattle.std.specs.Prelude.{◌≡◌, ℕ, ◌+◌, ◌-◌, ◌*◌, ◌^◌, ◌<◌, ◌≤◌, ◌⊎◌, Bool, false, true, List}
use Rattle.std.specs.Prelude.{length, Option, Some, None, Ok, ⊤, [], ◌∷◌, ◌++◌}
use Rattle.fax_bits.specs.declared.Colour.{Colour}
use Rattle.fax_bits.specs.declared.Colour.TheVariants.{White}
use Rattle.fax_rows.specs.Rows.{pels_of_runs}
use Rattle.fax_page.specs.declared.StripForm.{StripForm}
use Rattle.fax_page.specs.Lines.{white_row}
use Rattle.fax_page.specs.views.Reader.{StripState}
use Rattle.fax_files.specs.declared.PageForm.{PageForm}
use Rattle.fax_files.specs.declared.Cause.{Cause}
use Rattle.fax_files.specs.views.Page.{IsPageForm}
use Rattle.fax_files.specs.Page.{most_rows, strip_form}
use Rattle.fax_files.specs.views.Chain.{ChainState}
use Rattle.fax_files.specs.views.Tiff.{TiffDirectory, PageStrips, bytes_of}
use Rattle.fax_walk.specs.declared.cursor.Cursor.{Cursor}
use Rattle.fax_walk.specs.declared.end.End.{End}
use Rattle.fax_walk.specs.declared.end.End.TheVariants.{Fault, Outside}
use Rattle.fax_walk.specs.declared.opening.OpenFault.{OpenFault}
use Rattle.fax_walk.specs.declared.opening.OpenFault.TheVariants.{Memory, Ended}
use Rattle.fax_walk.specs.Pages.{LongCursorValue}
use Rattle.fax_walk.specs.laws.InOrder.{LeadTo}
use Rattle.fax_walk.specs.Pages.{read_page}
use Rattle.fax_walk.specs.Items.{RowItem, RowPosition, IsPositionOn, IsRow, first_at, place_after}
use Rattle.fax_walk.specs.code.RowPlaces.{IsInner}
use Rattle.fax_walk.specs.Items.{position_at}
use Rattle.fax_walk.specs.code.RowPlaces.{strip_at}
use Rattle.fax_walk.specs.code.RowPlaces.{place_on}
use Rattle.fax_walk.specs.code.Opening.{IsFilePage, UpcomingPage, page_with}
use Rattle.fax_walk.specs.Pages.{goes_on, ends_as}

-- a page that is open: its number, the chain after its directory, its directory and form, the first
-- row that is returned, the number of the strip that is read, that strip, as far as it is read, the
-- row that was read last as it is returned, and how many rows were read up to here
pub record PageState : Type 0 where
  pub page : ℕ
  pub chain : ChainState
  pub directory : TiffDirectory
  pub form : PageForm
  pub first : ℕ
  pub number : ℕ
  pub strip : StripState
  pub shown : List Colour
  pub read : ℕ

-- the number of the next row on a page
abbrev pub row_of : PageState → ℕ
row_of page = page.number * page.form.rows_per_strip + page.strip.row

-- how many rows are still read before the first one that is returned
abbrev pub skipped : PageState → ℕ
skipped page = page.first - row_of page

-- the place of the next row, or the first one of the page after
abbrev pub place_of : PageState → RowPosition
place_of page =
    place_on page.form page.page (row_of page)
    (record { bits = page.strip.place; reference = page.strip.reference })

-- the row that was read last, as it is returned: from the row of its own that colours are exchanged
-- in, if there is one
abbrev pub row_shown : StripState → Option (List Colour) → List Colour
row_shown strip None = strip.reference
row_shown strip (Some row) = row

-- there is a row of its own for colours that are exchanged where they are, and it has the page's
-- width
abbrev pub IsRoomFor : PageForm → Option (List Colour) → Type 0
IsRoomFor form None = form.exchanged ≡ false
IsRoomFor form (Some row) = (form.exchanged ≡ true) × (length row ≡ form.width)

-- a strip is one of the page's, of its bytes, and no bit stands before its first row, whose
-- reference is white
pub record IsStripOf (form : PageForm) (directory : TiffDirectory) (number : ℕ)
    (strip : StripState) : Type 0 where
  pub form_is : strip.form ≡ strip_form form number
  pub bytes_are : bytes_of directory number ≡ Some strip.bytes
  pub within : strip.row ≤ strip.form.rows
  pub first : strip.row ≡ 0 → (strip.place ≡ 0) × (strip.reference ≡ white_row form.width)

-- a page that is read: it is its file's, of a form within the limits, and the strip is the one of
-- that number
pub record IsReadingPage (page : ℕ) (chain : ChainState) (form : PageForm) (strips : PageStrips)
    (number : ℕ) (strip : StripState) (exchanged : Option (List Colour))
    (before : ℕ) : Type 0 where
  pub its : IsFilePage page chain strips.directory form
  pub limits : IsPageForm form
  pub counted : strips.count ≡ form.strips
  pub within : number < form.strips
  pub strip_is : IsStripOf form strips.directory number strip
  pub room : IsRoomFor form exchanged
  pub some_page : page < 2 ^ 32
  pub few : before + strip.read ≤ page * most_rows + (number * form.rows_per_strip + strip.row)

-- a page whose rows can be read
pub record IsOpen (page : PageState) : Type 0 where
  pub no_fault : page.strip.fault ≡ None
  pub first : page.first < page.form.rows

-- a page of the file was opened at this place; so many rows are read before the first one that is
-- returned, and so many were read before
pub record IsOpenedAt (file : List ℕ) (at : RowPosition) (dropped read : ℕ)
    (page : PageState) : Type 0 where
  pub is_open : IsOpen page
  pub file_is : page.directory.file ≡ file
  pub upcoming_row : row_of page < page.form.rows
  pub place_is : place_of page ≡ at
  pub skips : skipped page ≡ dropped
  pub read_is : page.read ≡ read

-- the same, and where rows are skipped its first row that is returned is this one
pub record IsOpenedFrom (file : List ℕ) (at : RowPosition) (dropped : ℕ) (origin : Cursor)
    (page : PageState) : Type 0 where
  pub opened : IsOpenedAt file at dropped 0 page
  pub named : 0 < dropped → (page.page ≡ origin.page) × (page.first ≡ origin.row)

-- no page was opened: memory was refused, or there is this to say of the end
abbrev pub IsRefusal : (End → Type 0) → OpenFault → Type 0
IsRefusal ends Memory = ⊤
IsRefusal ends (Ended end) = ends end

-- the reader of a strip stands at a place inside it, before this row of the strip
abbrev pub IsAtPlace : StripForm → List ℕ → ℕ → LongCursorValue → StripState → Type 0
IsAtPlace form bytes row place strip =
    IsInner form.width bytes place
    × (strip ≡ record {
      form = form;
      bytes = bytes;
      place = place.bits;
      row = row;
      read = 0;
      reference = pels_of_runs White place.runs;
      fault = None;
    })

-- no strip was opened: where memory was not refused, the place is outside of it
abbrev pub IsNoPlace : StripForm → List ℕ → LongCursorValue → OpenFault → Type 0
IsNoPlace form bytes place =
    IsRefusal (λ end. (end ≡ Outside) × (IsInner form.width bytes place → ⊥))

-- the strip of a row of the next page is not there: the rows end at its first row
pub record IsNoStrip (upcoming : UpcomingPage) (first : ℕ) (end : End) : Type 0 where
  pub stop : IsRow upcoming.directory.file
      (first_at upcoming.page (strip_at upcoming.form first * upcoming.form.rows_per_strip))
      (ends_as end)
  pub cause : Cause
  pub final_end : end
      ≡ Fault upcoming.page (strip_at upcoming.form first * upcoming.form.rows_per_strip) cause

-- a place inside a strip of the next page is not there, or its strip is not
abbrev pub IsNoInner : UpcomingPage → LongCursorValue → End → Type 0
IsNoInner upcoming place end =
    (IsPositionOn upcoming.directory.file (page_with upcoming.directory upcoming.form) place
    × IsRow upcoming.directory.file (position_at place) (ends_as end))
    ⊎ ((IsPositionOn upcoming.directory.file (page_with upcoming.directory upcoming.form) place → ⊥)
    × (end ≡ Outside))

-- the rows end at the next row on a page
abbrev pub EndsAtRow : PageState → End → Type 0
EndsAtRow page end = (cause : Cause) × (end ≡ Fault page.page (row_of page) cause)

-- the next row is an item
abbrev pub item_of : PageState → ℕ → PageState → RowItem
item_of old r new =
    record { page = old.page; form = old.form; row = r; pels = new.shown; bits = new.strip.place }

-- the same page, as far as another row of it
pub record IsSamePage (old new : PageState) : Type 0 where
  pub page : new.page ≡ old.page
  pub form : new.form ≡ old.form
  pub first : new.first ≡ old.first
  pub directory : new.directory ≡ old.directory

-- the same place of a page, at this strip or at the next one
pub record KeepsPlace (old new : PageState) : Type 0 where
  pub same : IsSamePage old new
  pub row : row_of new ≡ row_of old
  pub place : place_of new ≡ place_of old
  pub read : new.read ≡ old.read

-- the next strip of a page was started
pub record IsNextStrip (old new : PageState) : Type 0 where
  pub still_open : IsOpen new
  pub number : new.number ≡ old.number + 1

-- the next row was read
pub record ReadsPageRow (old new : PageState) : Type 0 where
  pub upcoming : row_of old < old.form.rows
  pub same : IsSamePage old new
  pub still_open : IsOpen new
  pub step : IsRow old.directory.file (place_of old)
      (goes_on (item_of old (row_of old) new) (place_of new))
  pub next_row : row_of new ≡ row_of old + 1
  pub one_more : new.read ≡ old.read + 1
  pub after : place_of new ≡ place_after (item_of old (row_of old) new)

-- the next row was read, or all rows were read before
abbrev pub ReadsRowOrNone : Bool → PageState → PageState → Type 0
ReadsRowOrNone true old new = ReadsPageRow old new
ReadsRowOrNone false old new = (row_of old ≡ old.form.rows) × (new ≡ old)

-- the next row could not be read
pub record StopsAtRow (old : PageState) (end : End) : Type 0 where
  pub stop : IsRow old.directory.file (place_of old) (ends_as end)
  pub final_end : EndsAtRow old end

-- these rows were read, which are not returned
pub record HasSkipped (old new : PageState) (items : List RowItem) : Type 0 where
  pub same : IsSamePage old new
  pub lead : LeadTo (IsRow old.directory.file) (place_of old) items (place_of new)
  pub rows : row_of new ≡ row_of old + length items
  pub read : new.read ≡ old.read + length items
  pub few : length items ≤ skipped old

-- the next row that is returned was read, and those before it
pub record GivesRow (old new : PageState) : Type 0 where
  pub same : IsSamePage old new
  pub still_open : IsOpen new
  pub items : List RowItem
  pub lead : LeadTo (IsRow old.directory.file) (place_of old) items (place_of new)
  pub front : List RowItem
  pub item : RowItem
  pub items_are : items ≡ front ++ item ∷ []
  pub count : length front ≡ skipped old
  pub item_is : item ≡ item_of old (row_of old + skipped old) new
  pub here : read_page old.directory.file (record { page = item.page; row = item.row })
      ≡ Ok (page_with old.directory old.form)
  pub within : item.row < old.form.rows
  pub after : place_of new ≡ place_after item
  pub next_row : row_of new ≡ row_of old + skipped old + 1
  pub read : new.read ≡ old.read + skipped old + 1
  pub few : new.read < 2 ^ 53

-- the next row that is returned was read, or all rows were read before
abbrev pub GivesRowOrNone : Bool → PageState → PageState → Type 0
GivesRowOrNone true old new = GivesRow old new
GivesRowOrNone false old new = (row_of old ≡ old.form.rows) × (new ≡ old)

-- the rows end before the next one that is returned: some before it were read
pub record GivesNone (old : PageState) (end : End) (new : PageState) : Type 0 where
  pub items : List RowItem
  pub skips : HasSkipped old new items
  pub stop : IsRow old.directory.file (place_of new) (ends_as end)
  pub final_end : EndsAtRow new end
