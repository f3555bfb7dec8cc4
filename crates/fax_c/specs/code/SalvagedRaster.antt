-- One step of the salvage of a page or a strip.
use Rattle.std.specs.Prelude.{◌≡◌, ℕ, ◌+◌, ◌<◌, ◌≤◌, ◌⊎◌, List, length, set, Option, Some, None}
use Rattle.fax_walk.specs.declared.salvage.LostRows.{LostRows}
use Rattle.fax_walk.specs.Salvaged.{PageRow}
use Rattle.fax_walk.specs.views.SalvagedRows.{RowsView, AreLeftOf}
use Rattle.fax_c.specs.declared.fill.Filled.{Filled}
use Rattle.fax_c.specs.declared.fill.Stop.{Stop}
use Rattle.fax_c.specs.declared.fill.Stop.TheVariants.{Done, NoRoom}
use Rattle.fax_c.specs.declared.salvaged_raster.FaxLost.{FaxLost}
use Rattle.fax_c.specs.SalvagedRaster.{lost_rows}
use Rattle.fax_c.specs.views.SalvagedRaster.{AreLeftWritten}

-- a stretch as it stands in memory of the caller
abbrev pub stretch_lost : LostRows → FaxLost
stretch_lost stretch = lost_rows stretch.row stretch.rows stretch.cause

-- a stretch that has ended, if one has, is written after so many others, where it has room
abbrev pub IsStretchPut : Option LostRows → List FaxLost → ℕ → ℕ → List FaxLost → Type 0
IsStretchPut None old count to new = (to ≡ count) × (new ≡ old)
IsStretchPut (Some stretch) old count to new =
    (to ≡ count + 1)
    × (((count < length old) × (new ≡ set old count (stretch_lost stretch)))
    ⊎ ((length old ≤ count) × (new ≡ old)))

-- why writing what is left stops: all is written, or not all stretches have room
abbrev pub IsDoneOrFull : Stop → Type 0
IsDoneOrFull stop = (stop ≡ Done) ⊎ (stop ≡ NoRoom)

-- all rows that are left are written
abbrev pub AreAllWritten : RowsView → ℕ → ℕ → List ℕ → List FaxLost → Filled → List ℕ
    → List FaxLost → Type 0
AreAllWritten remaining page stride old old_lost filled new lost =
    (rows : List PageRow) × AreLeftOf remaining.its rows × (length rows ≡ remaining.rows)
    × AreLeftWritten page stride rows (record { raster = old; lost = old_lost }) filled
    (record { raster = new; lost = lost })
