-- One step of the salvage of a page from a place on.
use Rattle.std.specs.Prelude.{◌≡◌, ◌≢◌, ℕ, ◌+◌, ◌<◌, ◌≤◌, ◌%◌, ◌⊎◌, false, true, List, [], ◌∷◌}
use Rattle.std.specs.Prelude.{◌++◌, length, drop, Option, Some, None}
use Rattle.fax_files.specs.declared.PageForm.{PageForm}
use Rattle.fax_walk.specs.declared.cursor.Cursor.{Cursor}
use Rattle.fax_walk.specs.declared.end.End.TheVariants.{EndOfPages, Outside}
use Rattle.fax_walk.specs.declared.salvage.LostRows.{LostRows}
use Rattle.fax_walk.specs.Items.{StripPosition}
use Rattle.fax_walk.specs.Salvaged.{PageRow, AreRowsFrom}
use Rattle.fax_walk.specs.views.RowsFrom.{RowsFromView, AreLeftNow, EndsWithPage, PassesOver}
use Rattle.fax_walk.specs.views.RowsFrom.{upcoming_row}
use Rattle.fax_c.specs.declared.fill.Filled.{Filled}
use Rattle.fax_c.specs.declared.fill.Stop.{Stop}
use Rattle.fax_c.specs.declared.fill.Stop.TheVariants.{Ended, NoRoom}
use Rattle.fax_c.specs.declared.places.FaxPlace.{FaxPlace}
use Rattle.fax_c.specs.declared.salvaged_raster.FaxLost.{FaxLost}
use Rattle.fax_c.specs.declared.salvage_from.SkippedRows.{SkippedRows}
use Rattle.fax_c.specs.SalvagedRaster.{found_of, lost_from}
use Rattle.fax_c.specs.code.SalvagedRaster.{stretch_lost}
use Rattle.fax_c.specs.views.Places.{cursor_of, place_at}
use Rattle.fax_c.specs.views.SalvagedFrom.{AreFirstWritten, EndsFound, HasRoomFor, IsPlaceOn}

-- a stretch, if there is one
abbrev pub stretches_of : Option LostRows → List FaxLost
stretches_of None = []
stretches_of (Some stretch) = stretch_lost stretch ∷ []

-- these rows are passed, up to one that is found, or all that are left of the page: those before
-- it are lost
pub record IsAhead (old : RowsFromView) (page row : ℕ) (ahead : SkippedRows) (new : RowsFromView) :
    Type 0
  where
    pub passed : List PageRow
    pub passes : PassesOver old passed new
    pub row_is : ahead.row ≡ row + length passed
    pub lost_are : (rows : List PageRow) → (ahead.found ≡ false → rows ≡ [])
        → lost_from page row (passed ++ rows)
        ≡ stretches_of ahead.lost ++ lost_from page ahead.row rows
    pub found : ahead.found ≡ true → (found_of passed ≡ new.last ∷ []) × EndsFound passed
        × (new.reader.before ≡ None) × EndsWithPage new
    pub ended : ahead.found ≡ false → (found_of passed ≡ []) × (upcoming_row new
        ≡ new.here.form.rows)
        × ((rows : List PageRow) → AreLeftNow new rows → rows ≡ [])

-- the first rows that are left are written
pub record AreRowsFilled (page row stride : ℕ) (old : RowsFromView) (old_out : List ℕ)
    (old_lost : List FaxLost) (filled : Filled) (new : RowsFromView) (out : List ℕ)
    (lost : List FaxLost) : Type 0 where
  pub same_file : new.file ≡ old.file
  pub same_here : new.here ≡ old.here
  pub row_is : filled.cursor ≡ record { page = page; row = upcoming_row new }
  pub within : upcoming_row new ≤ new.here.form.rows
  pub ends : (upcoming_row new ≡ new.here.form.rows) ⊎ (new.reader.before ≡ None)
  pub with_page : EndsWithPage new
  pub written : (rest : List PageRow) → AreLeftNow new rest
      → (rows : List PageRow) × AreLeftNow old rows
      × AreFirstWritten page row stride rows rest old_out old_lost filled out lost

-- why nothing is looked for at a place, with so much room, or nothing says so
abbrev pub IsStopBefore : PageForm → FaxPlace → ℕ → ℕ → ℕ → Option Stop → Type 0
IsStopBefore form place stride len room None =
    HasRoomFor form.width stride len room × (place.row < form.rows)
    × (place.runs ≡ 0 → place.row % form.rows_per_strip ≡ 0)
IsStopBefore form place stride len room (Some NoRoom) =
    HasRoomFor form.width stride len room → ⊥
IsStopBefore form place stride len room (Some (Ended EndOfPages)) =
    HasRoomFor form.width stride len room × (place.row ≡ form.rows)
IsStopBefore form place stride len room (Some (Ended Outside)) =
    HasRoomFor form.width stride len room
    × (place.row ≢ form.rows)
    × ((form.rows < place.row)
    ⊎ ((place.runs ≡ 0) × (place.row % form.rows_per_strip ≢ 0)))
IsStopBefore form place stride len room (Some stop) = ⊥

-- all rows of the page are passed, or the last one that was passed is found
abbrev pub EndsOrGoesOn : RowsFromView → Type 0
EndsOrGoesOn remaining =
    (upcoming_row remaining ≤ remaining.here.form.rows)
    × ((upcoming_row remaining ≡ remaining.here.form.rows) ⊎ (remaining.reader.before ≡ None))

-- the place of the next row: after the page's last row, or one of the page, from which on what is
-- left is what is left now
abbrev pub IsToldPlace : RowsFromView → Cursor → FaxPlace → List ℕ → Type 0
IsToldPlace remaining cursor place runs =
    ((cursor.row ≡ remaining.here.form.rows) × (place ≡ place_at cursor))
    ⊎ ((s : ℕ) × (i : ℕ) × (at : StripPosition) × IsPlaceOn remaining.file remaining.here place runs
    s i at
    × ((rest : List PageRow) → AreLeftNow remaining rest
    → AreRowsFrom remaining.file remaining.here s i at rest))

-- it is reported, and no run but its own is changed
abbrev pub IsToldAfter : RowsFromView → Cursor → FaxPlace → List ℕ → List ℕ → Type 0
IsToldAfter remaining cursor place old_runs runs =
    (cursor_of place ≡ cursor) × (drop place.runs runs ≡ drop place.runs old_runs)
    × IsToldPlace remaining cursor place runs
