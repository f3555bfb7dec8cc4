-- What is left of a damaged page or strip in a raster, and the rows that are lost.
-- A definition without a citation is this project's profile.
use Rattle.std.specs.Prelude.{ℕ, List, [], ◌∷◌, replicate, Ok, Err}
use Rattle.fax_rows.specs.Rows.{Colour}
use Rattle.fax_files.specs.declared.Cause.{Cause}
use Rattle.fax_walk.specs.Salvaged.{PageRow, SalvagedItem, row_found, rows_lost, page_refused}
use Rattle.fax_walk.specs.Salvaged.{page_items}
use Rattle.fax_c.specs.declared.salvaged_raster.FaxLost.{FaxLost}
use Rattle.fax_c.specs.FaultNumbers.{fault_number}
use Rattle.fax_c.specs.Raster.{padded_row}

-- a row in a raster: as it is where it is found, and zeros, which are white, where it is lost
abbrev pub left_row : ℕ → PageRow → List ℕ
left_row stride (Ok row) = padded_row stride row
left_row stride (Err cause) = replicate stride 0

-- so many rows from one on, which are lost for this cause, as they stand in memory of the caller
abbrev pub lost_rows : ℕ → ℕ → Cause → FaxLost
lost_rows row rows cause = record { row = row; rows = rows; fault = fault_number cause }

-- those of what is returned that are lost
abbrev pub lost_of : List SalvagedItem → List FaxLost
lost_of [] = []
lost_of (row_found p r row ∷ items) = lost_of items
lost_of (rows_lost p r rows cause ∷ items) = lost_rows r rows cause ∷ lost_of items
lost_of (page_refused p fault ∷ items) = lost_of items

-- the stretches of lost rows among those of page p from row r on
abbrev pub lost_from : ℕ → ℕ → List PageRow → List FaxLost
lost_from p r rows = lost_of (page_items p r rows)

-- the stretches of lost rows among all rows of page p
abbrev pub lost_among : ℕ → List PageRow → List FaxLost
lost_among p rows = lost_from p 0 rows

-- the rows among these that are found
abbrev pub found_of : List PageRow → List (List Colour)
found_of [] = []
found_of (Ok row ∷ rows) = row ∷ found_of rows
found_of (Err cause ∷ rows) = found_of rows
