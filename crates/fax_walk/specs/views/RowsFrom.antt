-- The rows that are left of a page from a place on, gone through one after another.
use Rattle.std.specs.Prelude.{◌≡◌, ℕ, ◌+◌, ◌*◌, ◌<◌, ◌≤◌, Bool, List, [], ◌∷◌, ◌++◌, length, map}
use Rattle.std.specs.Prelude.{flat_map, replicate, Option, Some, None, Ok, Err}
use Rattle.fax_rows.specs.Rows.{Colour}
use Rattle.fax_page.specs.declared.PlaceFault.{PlaceFault}
use Rattle.fax_page.specs.declared.PlaceFault.TheVariants.{Memory, Outside}
use Rattle.fax_page.specs.declared.ReferenceRow.{ReferenceRow}
use Rattle.fax_page.specs.Salvage.{SalvagedRow, AreSalvaged}
use Rattle.fax_page.specs.views.Reader.{IsBefore}
use Rattle.fax_page.specs.views.Salvage.{SalvageState}
use Rattle.fax_walk.specs.declared.salvage_rows.StripPositionRef.{StripPositionRef}
use Rattle.fax_walk.specs.declared.salvage_rows.SalvagedPart.{SalvagedPart}
use Rattle.fax_walk.specs.declared.salvage_rows.SalvagedPart.TheVariants.{Found, Lost}
use Rattle.fax_walk.specs.Items.{StripPosition, before}
use Rattle.fax_walk.specs.Pages.{FilePage}
use Rattle.fax_walk.specs.Salvaged.{PageRow, AreRowsFrom, AreStripsLeft, IsRowOfStrip, on_page}
use Rattle.fax_walk.specs.Salvaged.{strip_left}
use Rattle.fax_walk.specs.views.SalvagedRows.{FoundPage}

-- how far a page is gone through: its file, where and what it is, the strip, whether that lies
-- wholly in the file, how far it is gone through, and the row that was found last
pub record RowsFromView : Type 0 where
  pub file : List ℕ
  pub here : FilePage
  pub strip : ℕ
  pub whole : Bool
  pub reader : SalvageState
  pub last : List Colour

-- the row of the next page
abbrev pub upcoming_row : RowsFromView → ℕ
upcoming_row view = view.strip * view.here.form.rows_per_strip + view.reader.row

-- what is left of the page from the next row on
abbrev pub AreLeftNow : RowsFromView → List PageRow → Type 0
AreLeftNow view rows =
    (own : List SalvagedRow) × (strips : List (List PageRow))
    × AreSalvaged view.reader.form view.reader.row view.reader.before view.reader.reference
    view.reader.upcoming own
    × AreStripsLeft view.file view.here (view.strip + 1) strips
    × (rows ≡ map (on_page view.here.form view.whole) own ++ flat_map (λ rows. rows) strips)

-- a place of strip s with this row before it: its bits are among those that the file has of the
-- strip
pub record IsInnerOf (file : List ℕ) (here : FilePage) (s bits : ℕ) (row_before : ReferenceRow)
    (at : StripPosition) : Type 0 where
  pub bits_are : at.bits ≡ bits
  pub within : bits ≤ 8 * length (strip_left here file s).0
  pub reference : IsBefore here.form.width row_before at.reference

-- before row r of a page, at a place of its strip
pub record IsStartedFrom (page : FoundPage) (r bits : ℕ) (row_before : ReferenceRow)
    (view : RowsFromView) : Type 0 where
  pub file_is : view.file ≡ page.file
  pub here_is : view.here ≡ page.here
  pub row_is : upcoming_row view ≡ r
  pub s : ℕ
  pub i : ℕ
  pub at : StripPosition
  pub there : IsRowOfStrip page.here.form r s i
  pub inner : IsInnerOf page.file page.here s bits row_before at
  pub rows_are : (rows : List PageRow) → AreLeftNow view rows
      → AreRowsFrom page.file page.here s i at rows

-- there is no such place in the row's strip, or memory was refused
abbrev pub IsNotStartedFrom : FoundPage → ℕ → ℕ → ReferenceRow → PlaceFault → Type 0
IsNotStartedFrom page r bits row_before Outside =
    (s i : ℕ) → IsRowOfStrip page.here.form r s i → (at : StripPosition)
    → IsInnerOf page.file page.here s bits row_before at → ⊥
IsNotStartedFrom page r bits row_before Memory =
    (s i : ℕ) → IsRowOfStrip page.here.form r s i
    → (at : StripPosition) × IsInnerOf page.file page.here s bits row_before at

-- these rows are passed, and no others
pub record PassesOver (old : RowsFromView) (passed : List PageRow) (new : RowsFromView) : Type 0
  where
    pub same_file : new.file ≡ old.file
    pub same_here : new.here ≡ old.here
    pub next : upcoming_row new ≡ upcoming_row old + length passed
    pub within : upcoming_row new ≤ old.here.form.rows
    pub followed : (rows : List PageRow) → AreLeftNow new rows → AreLeftNow old (passed ++ rows)

-- after the last row of the page nothing is left of it
abbrev pub EndsWithPage : RowsFromView → Type 0
EndsWithPage view =
    upcoming_row view ≡ view.here.form.rows → (rows : List PageRow) → AreLeftNow view rows → rows
    ≡ []

-- what became of the next rows; or all were passed
abbrev pub IsNextFrom : RowsFromView → Option SalvagedPart → RowsFromView → Type 0
IsNextFrom old None new =
    PassesOver old [] new × (upcoming_row new ≡ new.here.form.rows) × AreLeftNow new []
    × ((rows : List PageRow) → AreLeftNow new rows → rows ≡ [])
IsNextFrom old (Some Found) new =
    PassesOver old (Ok new.last ∷ []) new × (new.reader.before ≡ None) × EndsWithPage new
IsNextFrom old (Some (Lost rows cause)) new =
    (0 < rows) × PassesOver old (replicate rows (Err cause)) new

-- where the next row is read in its strip, if that is started; else the next strip begins with it,
-- or the page has no more
abbrev pub inner_of : Option StripPositionRef → Option StripPosition
inner_of None = None
inner_of (Some lent) = Some (record { bits = lent.bits; reference = lent.reference.now })

-- the place of the next row, after one that is found: what is left of the page from there on is
-- what is left now
abbrev pub IsPlaceNow : RowsFromView → Option StripPositionRef → Type 0
IsPlaceNow view lent =
    let at = before view.here.form.width (inner_of lent) in
    view.reader.before ≡ None → upcoming_row view < view.here.form.rows
    → (s : ℕ) × (i : ℕ) × IsRowOfStrip view.here.form (upcoming_row view) s i
    × (at.bits ≤ 8 * length (strip_left view.here view.file s).0)
    × (length at.reference ≡ view.here.form.width) × (inner_of lent ≡ None → i ≡ 0)
    × ((rows : List PageRow) → AreLeftNow view rows → AreRowsFrom view.file view.here s i at rows)
