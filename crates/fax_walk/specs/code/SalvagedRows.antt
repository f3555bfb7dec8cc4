-- How the remaining rows of a page or a strip are gone through.
use Rattle.std.specs.Prelude.{◌≡◌, ℕ, ◌+◌, ◌<◌, ◌≤◌, List, [], ◌∷◌, ◌++◌, length, map, replicate}
use Rattle.std.specs.Prelude.{Option, Some, None, Ok, Err, ⊤}
use Rattle.fax_bits.specs.Bits.{bits}
use Rattle.fax_rows.specs.Rows.{Colour}
use Rattle.fax_page.specs.Salvage.{SalvagedRow, AreSalvaged}
use Rattle.fax_page.specs.declared.RowsEnd.{RowsEnd}
use Rattle.fax_page.specs.views.LeftUncounted.{AreLeftFrom}
use Rattle.fax_walk.specs.declared.rows_left.RowSource.{RowSource}
use Rattle.fax_walk.specs.declared.rows_left.RowSource.TheVariants.{Page, Strip, Uncounted}
use Rattle.fax_walk.specs.declared.salvage_rows.SalvagedPart.{SalvagedPart}
use Rattle.fax_walk.specs.declared.salvage_rows.SalvagedPart.TheVariants.{Found, Lost}
use Rattle.fax_walk.specs.Salvaged.{PageRow, strip_row}
use Rattle.fax_walk.specs.code.Opening.{page_with}
use Rattle.fax_walk.specs.code.SalvageItems.{AreRowsLeft, upcoming_row}
use Rattle.fax_walk.specs.views.SalvagedRows.{LeftOf, of_page, of_strip, of_uncounted, AreLeftOf}
use Rattle.fax_walk.specs.views.SalvagedRows.{RowsView}

-- what is gone through
abbrev pub its_of : RowSource → LeftOf
its_of (Page its) =
    of_page its.rows.directory.file (page_with its.rows.directory its.rows.form)
its_of (Strip reader bytes) = of_strip reader.form (bits reader.form.order bytes.now)
its_of (Uncounted reader bytes count) =
    of_uncounted reader.strip.form (bits reader.strip.form.order bytes.now)

-- how many rows of it were passed, of how many, with how many pels
abbrev pub row_of : RowSource → ℕ
row_of (Page its) = upcoming_row its.rows
row_of (Strip reader bytes) = reader.row
row_of (Uncounted reader bytes count) = reader.row

abbrev pub rows_of : RowSource → ℕ
rows_of (Page its) = its.rows.form.rows
rows_of (Strip reader bytes) = reader.form.rows
rows_of (Uncounted reader bytes count) = count

abbrev pub width_of : RowSource → ℕ
width_of (Page its) = its.rows.form.width
width_of (Strip reader bytes) = reader.form.width
width_of (Uncounted reader bytes count) = reader.strip.form.width

-- the row that was found last
abbrev pub last_of : RowSource → List Colour
last_of (Page its) = its.shown
last_of (Strip reader bytes) = reader.reference
last_of (Uncounted reader bytes count) = reader.strip.reference

-- as contracts see it
abbrev pub view_of : RowSource → RowsView
view_of remaining = record {
  its = its_of remaining;
  row = row_of remaining;
  rows = rows_of remaining;
  width = width_of remaining;
  last = last_of remaining;
}

-- what is left from the next row on
abbrev pub AreLeftNow : RowSource → List PageRow → Type 0
AreLeftNow (Page its) rows = AreRowsLeft its.rows rows
AreLeftNow (Strip reader bytes) rows =
    (own : List SalvagedRow)
    × AreSalvaged reader.form reader.row reader.before reader.reference reader.upcoming own
    × (rows ≡ map strip_row own)
AreLeftNow (Uncounted reader bytes count) rows =
    (own : List SalvagedRow) × (end : RowsEnd) × AreLeftFrom reader own end
    × (rows ≡ map strip_row own)

-- of rows of a strip of unknown height there are so many
abbrev pub IsCountOf : LeftOf → ℕ → Type 0
IsCountOf (of_uncounted form b) count =
    (rows : List PageRow) → AreLeftOf (of_uncounted form b) rows → length rows ≡ count
IsCountOf its count = ⊤

-- what is left follows the rows that were passed
pub record IsGoneOver (remaining : RowSource) : Type 0 where
  pub within : row_of remaining ≤ rows_of remaining
  pub counted : IsCountOf (its_of remaining) (rows_of remaining)
  pub passed : (rows : List PageRow) → AreLeftNow remaining rows
      → (done : List PageRow) × (length done ≡ row_of remaining)
      × AreLeftOf (its_of remaining) (done ++ rows)

-- these rows are passed
pub record GoesOver (old : RowSource) (passed : List PageRow) (new : RowSource) : Type 0 where
  pub next : row_of new ≡ row_of old + length passed
  pub within : row_of new ≤ rows_of new
  pub followed : (rows : List PageRow) → AreLeftNow new rows → AreLeftNow old (passed ++ rows)

-- what became of the next rows
abbrev pub GoesOverPart : RowSource → Option SalvagedPart → RowSource → Type 0
GoesOverPart old None new =
    GoesOver old [] new × (row_of new ≡ rows_of new) × AreLeftNow new []
GoesOverPart old (Some Found) new = GoesOver old (Ok (last_of new) ∷ []) new
GoesOverPart old (Some (Lost rows cause)) new =
    (0 < rows) × GoesOver old (replicate rows (Err cause)) new

-- what a call for the next rows answers, and rows are left, or none
pub record IsNextOf (old : RowSource) (part : Option SalvagedPart) (new : RowSource) : Type 0 where
  pub same_its : its_of new ≡ its_of old
  pub same_rows : rows_of new ≡ rows_of old
  pub same_width : width_of new ≡ width_of old
  pub over : GoesOverPart old part new
  pub rest : (rows : List PageRow) × AreLeftNow new rows
