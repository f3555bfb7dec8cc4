-- The rows that are left of a page or a strip, gone through one after another.
use Rattle.std.specs.Prelude.{◌≡◌, ℕ, ◌+◌, ◌<◌, ◌≤◌, Bool, List, [], ◌∷◌, ◌++◌, length, drop}
use Rattle.std.specs.Prelude.{map, replicate, Option, Some, None, Ok, Err}
use Rattle.fax_rows.specs.Rows.{Colour}
use Rattle.fax_page.specs.declared.StripForm.{StripForm}
use Rattle.fax_page.specs.Strip.{most_rows}
use Rattle.fax_page.specs.Salvage.{SalvagedRow}
use Rattle.fax_page.specs.LeftUncounted.{IsLeftUncounted}
use Rattle.fax_page.specs.declared.RowsEnd.{RowsEnd}
use Rattle.fax_page.specs.Uncounted.{uncounted}
use Rattle.fax_walk.specs.declared.salvage_rows.SalvagedPart.{SalvagedPart}
use Rattle.fax_walk.specs.declared.salvage_rows.SalvagedPart.TheVariants.{Found, Lost}
use Rattle.fax_walk.specs.Pages.{FilePage, read_page}
use Rattle.fax_walk.specs.Salvaged.{PageRow, AreRowsOfPage, AreRowsOfStrip, strip_row}

-- what rows are left of: a page of a file, or a strip of these bits with no file around it, whose
-- rows are counted, or those of unknown height
pub data LeftOf : Type 0 where
  of_page : List ℕ → FilePage → LeftOf
  of_strip : StripForm → List Bool → LeftOf
  of_uncounted : StripForm → List Bool → LeftOf

-- the remaining rows of those of unknown number, with no file around them, and how they end
abbrev pub AreRowsUncounted : StripForm → List Bool → List PageRow → RowsEnd → Type 0
AreRowsUncounted form b rows end =
    (own : List SalvagedRow) × IsLeftUncounted form b own end × (rows ≡ map strip_row own)

-- the remaining rows of it, found or lost
abbrev pub AreLeftOf : LeftOf → List PageRow → Type 0
AreLeftOf (of_page file here) rows = AreRowsOfPage file here rows
AreLeftOf (of_strip form b) rows = AreRowsOfStrip form b rows
AreLeftOf (of_uncounted form b) rows = (end : RowsEnd) × AreRowsUncounted form b rows end

-- a page that was found in a file
pub record FoundPage : Type 0 where
  pub file : List ℕ
  pub here : FilePage

-- page p of a file
pub record IsFoundPage (file : List ℕ) (p : ℕ) (found : FoundPage) : Type 0 where
  pub file_is : found.file ≡ file
  pub there : read_page file (record { page = p; row = 0 }) ≡ Ok found.here

-- how far they are gone through: what they are left of, how many rows of it were passed, of how
-- many, how many pels each has, and the row that was found last
pub record RowsView : Type 0 where
  pub its : LeftOf
  pub row : ℕ
  pub rows : ℕ
  pub width : ℕ
  pub last : List Colour

-- before the first row
pub record IsRowsStart (its : LeftOf) (rows width : ℕ) (view : RowsView) : Type 0 where
  pub its_is : view.its ≡ its
  pub none_passed : view.row ≡ 0
  pub rows_are : view.rows ≡ rows
  pub width_is : view.width ≡ width

-- before the first of so many rows of a strip of unknown height, which end so
pub record IsUncountedStart (form : StripForm) (b : List Bool) (view : RowsView) (count : ℕ)
    (end : RowsEnd) : Type 0 where
  pub all : List PageRow
  pub are : AreRowsUncounted (uncounted form) b all end
  pub count_is : count ≡ length all
  pub few : count ≤ most_rows
  pub start : IsRowsStart (of_uncounted (uncounted form) b) count form.width view

-- these rows are passed, and no others
pub record PassesRows (old : RowsView) (passed : List PageRow) (new : RowsView) : Type 0 where
  pub next : new.row ≡ old.row + length passed
  pub within : new.row ≤ old.rows
  pub rows_are : (all : List PageRow) → AreLeftOf old.its all
      → drop old.row all ≡ passed ++ drop new.row all

-- what became of the next rows; or all were passed
abbrev pub PassesPart : RowsView → Option SalvagedPart → RowsView → Type 0
PassesPart old None new =
    (old.row ≡ old.rows) × ((all : List PageRow) → AreLeftOf old.its all → length all ≡ old.row)
PassesPart old (Some Found) new = PassesRows old (Ok new.last ∷ []) new
PassesPart old (Some (Lost rows cause)) new =
    (0 < rows) × PassesRows old (replicate rows (Err cause)) new

-- what a call for the next rows answers
pub record IsNextPart (old : RowsView) (part : Option SalvagedPart) (new : RowsView) : Type 0 where
  pub same_its : new.its ≡ old.its
  pub same_rows : new.rows ≡ old.rows
  pub same_width : new.width ≡ old.width
  pub passes : PassesPart old part new
