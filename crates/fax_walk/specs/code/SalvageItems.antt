-- How a damaged file is gone through.
use Rattle.std.specs.Prelude.{◌≡◌, ℕ, ◌+◌, ◌*◌, ◌<◌, ◌≤◌, Bool, true, false, List, [], ◌∷◌}
use Rattle.std.specs.Prelude.{◌++◌, flat_map, map, replicate, Option, Some, None, Ok, Err}
use Rattle.fax_bits.specs.Bits.{bits}
use Rattle.fax_rows.specs.Rows.{Colour}
use Rattle.fax_page.specs.declared.StripFault.TheVariants.{MissingEol}
use Rattle.fax_page.specs.declared.salvage_reader.Salvaged.{Salvaged}
use Rattle.fax_page.specs.declared.salvage_reader.Salvaged.TheVariants as in_strip
use Rattle.fax_page.specs.Salvage.{SalvagedRow, found, AreSalvaged, IsSalvagedStrip}
use Rattle.fax_page.specs.declared.PlaceFault.{PlaceFault}
use Rattle.fax_page.specs.declared.ReferenceRow.{ReferenceRow}
use Rattle.fax_page.specs.laws.Salvage.{IsRestOf}
use Rattle.fax_page.specs.views.Salvage.{SalvageState}
use Rattle.fax_files.specs.FaultNames.{StripFault}
use Rattle.fax_files.specs.declared.FileFault.TheVariants.{StripOutside}
use Rattle.fax_files.specs.Page.{strip_form}
use Rattle.fax_files.specs.views.Page.{IsPageForm}
use Rattle.fax_files.specs.views.Tiff.{PageStrips, TiffDirectory, bytes_of, form_of}
use Rattle.fax_page.specs.laws.Lines.{IsStrip}
use Rattle.fax_walk.specs.declared.salvage_rows.SalvagedPart.{SalvagedPart}
use Rattle.fax_walk.specs.declared.salvage_rows.SalvagedPart.TheVariants.{Found, Lost}
use Rattle.fax_walk.specs.Items.{exchanged}
use Rattle.fax_walk.specs.Pages.{Cause, File, Strip, PageForm}
use Rattle.fax_walk.specs.Salvaged.{PageRow, AreStripsLeft, on_page, strip_left}
use Rattle.fax_walk.specs.code.Opening.{page_with}
use Rattle.fax_walk.specs.declared.salvage_rows.StripPositionRef.{StripPositionRef}
use Rattle.fax_walk.specs.views.RowsFrom.{RowsFromView, EndsWithPage, IsStartedFrom}
use Rattle.fax_walk.specs.views.RowsFrom.{IsNotStartedFrom, IsPlaceNow}
use Rattle.fax_walk.specs.views.SalvagedRows.{FoundPage}

-- the cause for which a row of a strip is lost, which lies wholly in the file or does not
abbrev pub cause_of : StripFault → Bool → Cause
cause_of fault true = Strip fault
cause_of fault false = File StripOutside

-- what became of the next row of a page, by what became of it in its strip
abbrev pub part_of : Salvaged → Bool → SalvagedPart
part_of in_strip.Found whole = Found
part_of (in_strip.Lost fault rows) whole = Lost rows (cause_of fault whole)
part_of (in_strip.Unterminated rows) whole = Lost rows (cause_of MissingEol whole)

-- whether the row is found
abbrev pub is_found : Salvaged → Bool
is_found in_strip.Found = true
is_found (in_strip.Lost fault rows) = false
is_found (in_strip.Unterminated rows) = false

-- how far the rows of a page are gone through: its directory and form, the strip, whether it lies
-- wholly in the file, whether all strips up to it do and no row of them is lost so far, and how far
-- that one is gone through
pub record RowsState : Type 0 where
  pub directory : TiffDirectory
  pub form : PageForm
  pub strip : ℕ
  pub whole : Bool
  pub clean : Bool
  pub reader : SalvageState

-- what the file has of strip s of a page with a directory: these bytes, which are all, or are not
abbrev pub AreBytesLeft : TiffDirectory → ℕ → List ℕ → Bool → Type 0
AreBytesLeft directory s bytes whole =
    (form : PageForm) → strip_left (page_with directory form) directory.file s ≡ (bytes, whole)

-- a strip of a page lies wholly in the file, and has all its rows
pub record IsWholeStrip (directory : TiffDirectory) (form : PageForm) (s : ℕ) : Type 0 where
  pub bytes : List ℕ
  pub bytes_are : bytes_of directory s ≡ Some bytes
  pub rows : List (List Colour)
  pub is : IsStrip (strip_form form s) (bits form.order bytes) rows None

-- the strips before one are whole
abbrev pub AreWholeBefore : TiffDirectory → PageForm → ℕ → Type 0
AreWholeBefore directory form strip = (s : ℕ) → s < strip → IsWholeStrip directory form s

-- a strip lies wholly in the file, and up to the next row all its rows are found
pub record IsCleanSoFar (directory : TiffDirectory) (form : PageForm) (strip : ℕ)
    (reader : SalvageState) : Type 0 where
  pub bytes : List ℕ
  pub bytes_are : bytes_of directory strip ≡ Some bytes
  pub rows : List (List Colour)
  pub followed : (own : List SalvagedRow)
      → AreSalvaged reader.form reader.row reader.before reader.reference reader.upcoming own
      → IsSalvagedStrip (strip_form form strip) (bits form.order bytes)
      (map (λ row. found row) rows ++ own)

-- the next row begins among the bits that the file has of its strip
pub record StandsInStrip (directory : TiffDirectory) (form : PageForm) (strip : ℕ) (whole : Bool)
    (reader : SalvageState) : Type 0 where
  pub bytes : List ℕ
  pub remaining : AreBytesLeft directory strip bytes whole
  pub upcoming : reader.row < reader.form.rows → IsRestOf (bits form.order bytes) reader.upcoming

-- a strip of the page is gone through
pub record IsInPage (strips : PageStrips) (form : PageForm) (strip : ℕ) (whole clean : Bool)
    (reader : SalvageState) : Type 0 where
  pub form_is : form_of strips.directory ≡ Ok form
  pub limits : IsPageForm form
  pub counted : strips.count ≡ form.strips
  pub inside : strip < form.strips
  pub reader_form : reader.form ≡ strip_form form strip
  pub within : reader.row ≤ reader.form.rows
  pub stands : StandsInStrip strips.directory form strip whole reader
  pub whole_before : clean ≡ true → AreWholeBefore strips.directory form strip
  pub clean_now : clean ≡ true → IsCleanSoFar strips.directory form strip reader

-- the row of the next page
abbrev pub upcoming_row : RowsState → ℕ
upcoming_row state = state.strip * state.form.rows_per_strip + state.reader.row

-- what is left of the page from the next row on
abbrev pub AreRowsLeft : RowsState → List PageRow → Type 0
AreRowsLeft state rows =
    (own : List SalvagedRow) × (strips : List (List PageRow))
    × AreSalvaged state.reader.form state.reader.row state.reader.before state.reader.reference
    state.reader.upcoming own
    × AreStripsLeft state.directory.file (page_with state.directory state.form) (state.strip + 1)
    strips
    × (rows ≡ map (on_page state.form state.whole) own ++ flat_map (λ rows. rows) strips)

-- the page stays
abbrev pub StaysOnPage : RowsState → RowsState → Type 0
StaysOnPage old new = (new.directory ≡ old.directory) × (new.form ≡ old.form)

-- before the first row of a page
pub record IsBeforeRows (directory : TiffDirectory) (form : PageForm)
    (state : RowsState) : Type 0 where
  pub directory_is : state.directory ≡ directory
  pub form_is : state.form ≡ form
  pub first : upcoming_row state ≡ 0
  pub all : (rows : List PageRow) → AreRowsLeft state rows
      → (strips : List (List PageRow))
      × AreStripsLeft directory.file (page_with directory form) 0 strips
      × (rows ≡ flat_map (λ rows. rows) strips)

-- the same rows are expected, where the next strip was entered, and one is, or all are gone through
pub record EntersStrip (old new : RowsState) : Type 0 where
  pub stays : StaysOnPage old new
  pub same_row : upcoming_row new ≡ upcoming_row old
  pub same_rows : (rows : List PageRow) → AreRowsLeft new rows → AreRowsLeft old rows
  pub upcoming : new.reader.row ≡ new.reader.form.rows → upcoming_row new ≡ new.form.rows

-- after these rows of a page others are left
pub record GoesOverRows (old : RowsState) (passed : List PageRow) (new : RowsState) : Type 0 where
  pub stays : StaysOnPage old new
  pub followed : (rows : List PageRow) → AreRowsLeft new rows → AreRowsLeft old (passed ++ rows)

-- a page that is gone through, as contracts see it that begin at a place
abbrev pub seen_from : RowsState → List Colour → RowsFromView
seen_from state last = record {
  file = state.directory.file;
  here = page_with state.directory state.form;
  strip = state.strip;
  whole = state.whole;
  reader = state.reader;
  last = last;
}

-- what a call for the next row answers
abbrev pub IsPart : RowsState → Option SalvagedPart → RowsState → Type 0
IsPart old None new =
    GoesOverRows old [] new × (upcoming_row new ≡ upcoming_row old) × (upcoming_row new
    ≡ new.form.rows)
    × AreRowsLeft new [] × ((rows : List PageRow) → AreRowsLeft new rows → rows ≡ [])
    × (new.clean ≡ true → AreWholeBefore new.directory new.form new.form.strips)
IsPart old (Some Found) new =
    GoesOverRows old (Ok (exchanged new.form new.reader.reference) ∷ []) new
    × (upcoming_row new ≡ upcoming_row old + 1) × (upcoming_row new ≤ new.form.rows)
    × (new.reader.before ≡ None) × EndsWithPage (seen_from new [])
IsPart old (Some (Lost rows cause)) new =
    GoesOverRows old (replicate rows (Err cause)) new × (0 < rows)
    × (upcoming_row new ≡ upcoming_row old + rows) × (upcoming_row new ≤ new.form.rows)

-- a page with a directory and a form
abbrev pub page_of : TiffDirectory → PageForm → FoundPage
page_of directory form =
    record { file = directory.file; here = page_with directory form }

-- before row r of a page, at a place of its strip
abbrev pub StartsAt : TiffDirectory → PageForm → ℕ → ℕ → ReferenceRow → RowsState → Type 0
StartsAt directory form r bits before state =
    (state.directory ≡ directory) × (state.form ≡ form)
    × IsStartedFrom (page_of directory form) r bits before (seen_from state [])

-- or there is no such place, or memory was refused
abbrev pub IsNotStartedAt : TiffDirectory → PageForm → ℕ → ℕ → ReferenceRow → PlaceFault → Type 0
IsNotStartedAt directory form r bits before fault =
    IsNotStartedFrom (page_of directory form) r bits before fault

-- where the next row is read
abbrev pub IsPlaceOf : RowsState → Option StripPositionRef → Type 0
IsPlaceOf state lent = IsPlaceNow (seen_from state []) lent
