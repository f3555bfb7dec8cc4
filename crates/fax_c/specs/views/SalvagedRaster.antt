-- What is left of a damaged page or strip, reported.
use Rattle.std.specs.Prelude.{◌≡◌, ℕ, ◌-◌, ◌*◌, ◌<◌, ◌≤◌, ◌⊎◌, Bool, List, ◌++◌, length, take, drop}
use Rattle.std.specs.Prelude.{flat_map, Ok, Err}
use Rattle.fax_bits.specs.Bits.{bits}
use Rattle.fax_rows.specs.Coded.{packed_len}
use Rattle.fax_page.specs.declared.StripForm.{StripForm}
use Rattle.fax_page.specs.declared.RowsEnd.{RowsEnd}
use Rattle.fax_page.specs.declared.RowsEnd.TheVariants.{Fault}
use Rattle.fax_page.specs.Uncounted.{uncounted}
use Rattle.fax_walk.specs.declared.cursor.Cursor.{Cursor}
use Rattle.fax_walk.specs.declared.end.End.{End}
use Rattle.fax_walk.specs.Pages.{FilePage, read_page}
use Rattle.fax_walk.specs.Salvaged.{PageRow}
use Rattle.fax_walk.specs.views.SalvagedRows.{LeftOf, of_page, of_strip, AreLeftOf}
use Rattle.fax_walk.specs.views.SalvagedRows.{AreRowsUncounted}
use Rattle.fax_c.specs.declared.fill.Filled.{Filled}
use Rattle.fax_c.specs.declared.fill.Stop.{Stop}
use Rattle.fax_c.specs.declared.fill.Stop.TheVariants.{Done, Ended, Memory, NoRoom}
use Rattle.fax_c.specs.declared.forms.FaxForm.{FaxForm}
use Rattle.fax_c.specs.declared.salvaged_raster.FaxLost.{FaxLost}
use Rattle.fax_c.specs.declared.places.FaxPlace.{FaxPlace}
use Rattle.fax_c.specs.declared.told.FaxTold.{FaxTold}
use Rattle.fax_c.specs.Forms.{form_numbers}
use Rattle.fax_c.specs.SalvagedRaster.{left_row, lost_among}
use Rattle.fax_c.specs.Told.{IsTold, none_filled_at}
use Rattle.fax_c.specs.views.PageRaster.{none_filled}
use Rattle.fax_c.specs.views.Places.{place_at}
use Rattle.fax_c.specs.views.BareStrips.{AskedStrip, IsReadable, IsReadableIn, IsReadableUncounted}
use Rattle.fax_c.specs.views.BareStrips.{IsRowsEndTold}

-- so many bytes hold so many rows of a raster, each in so many bytes, which hold its pels
abbrev pub HoldsRows : ℕ → ℕ → ℕ → ℕ → Type 0
HoldsRows len width rows stride = (packed_len width ≤ stride) × (rows * stride ≤ len)

-- the first stretches are written, as many as have room, and no other is changed
abbrev pub AreLostPut : List FaxLost → List FaxLost → List FaxLost → Type 0
AreLostPut found old new = new ≡ take (length old) found ++ drop (length found) old

-- all is written where so many stretches have room, or these have not
abbrev pub StopsAfterLost : ℕ → ℕ → Stop → Type 0
StopsAfterLost stretches room stop =
    ((stop ≡ Done) × (stretches ≤ room)) ⊎ ((stop ≡ NoRoom) × (room < stretches))

-- the memory of a caller: a raster, and a table of stretches that are lost
pub record SalvageMemory : Type 0 where
  pub raster : List ℕ
  pub lost : List FaxLost

-- all rows of a page are written, found or lost, each in so many bytes, and the stretches of those
-- that are lost, and nothing else is changed
pub record AreLeftWritten (page stride : ℕ) (rows : List PageRow) (old : SalvageMemory)
    (filled : Filled) (new : SalvageMemory) : Type 0 where
  pub count : filled.count ≡ length rows
  pub used : filled.used ≡ length (lost_among page rows)
  pub cursor : filled.cursor ≡ record { page = page; row = length rows }
  pub written : new.raster ≡ flat_map (left_row stride) rows
      ++ drop (length rows * stride) old.raster
  pub lost_are : AreLostPut (lost_among page rows) old.lost new.lost
  pub stops : StopsAfterLost (length (lost_among page rows)) (length old.lost) filled.stop

-- what is left of a page or a strip with so many rows is written; or they have no room, or memory
-- was refused, and nothing is written
abbrev pub WritesLeft : LeftOf → ℕ → ℕ → ℕ → ℕ → SalvageMemory → Filled → SalvageMemory → Type 0
WritesLeft its page width count stride old filled new =
    (HoldsRows (length old.raster) width count stride
    × (rows : List PageRow) × AreLeftOf its rows × (length rows ≡ count)
    × AreLeftWritten page stride rows old filled new)
    ⊎ ((new ≡ old)
    × (((filled ≡ none_filled page NoRoom) × (HoldsRows (length old.raster) width count stride → ⊥))
    ⊎ ((filled ≡ none_filled page Memory) × HoldsRows (length old.raster) width count stride)))

-- a page's form is reported, and what is left of the page; or there is no such page, and the end is
-- reported
abbrev pub TellsSalvaged : List ℕ → ℕ → ℕ → FaxForm → FaxForm → SalvageMemory → SalvageMemory
    → FaxTold → ℕ → Type 0
TellsSalvaged file page stride old_form form old new told status =
    (filled : Filled) × IsTold filled told status
    × (((here : FilePage) × (read_page file (record { page = page; row = 0 }) ≡ Ok here)
    × (form ≡ form_numbers here.form)
    × WritesLeft (of_page file here) page here.form.width here.form.rows stride old filled new)
    ⊎ ((end : End) × (read_page file (record { page = page; row = 0 }) ≡ Err end)
    × (filled ≡ none_filled page (Ended end)) × (form ≡ old_form) × (new ≡ old)))

-- where a strip of unknown height ends that is salvaged up to a cursor: at its last row, which is
-- lost, where no EOL is left after it, and else after the last one
abbrev pub end_place : Cursor → RowsEnd → FaxPlace
end_place cursor (Fault fault) = place_at (record cursor { row = cursor.row - 1 })
end_place cursor end = place_at cursor

-- what was written of rows of a strip of unknown height is reported, with how they end, where all
-- stretches have room
abbrev pub IsLeftTold : Filled → RowsEnd → FaxTold → ℕ → Type 0
IsLeftTold filled end told status =
    ((filled.stop ≡ NoRoom) × IsTold filled told status)
    ⊎ ((filled.stop ≡ Done) × IsRowsEndTold filled (end_place filled.cursor end) end told status)

-- what is left of rows of a strip of unknown height is written, and how they end is reported; or it
-- has no room, and how many rows it is is reported; or memory was refused; then nothing is written
abbrev pub WritesUncounted : StripForm → List Bool → ℕ → SalvageMemory → SalvageMemory → FaxTold
    → ℕ → Type 0
WritesUncounted form b stride old new told status =
    ((rows : List PageRow) × (end : RowsEnd) × AreRowsUncounted (uncounted form) b rows end
    × (((filled : Filled) × HoldsRows (length old.raster) form.width (length rows) stride
    × AreLeftWritten 0 stride rows old filled new × IsLeftTold filled end told status)
    ⊎ ((HoldsRows (length old.raster) form.width (length rows) stride → ⊥)
    × IsTold (none_filled_at (record { page = 0; row = length rows }) NoRoom) told status
    × (new ≡ old))))
    ⊎ (IsTold (none_filled 0 Memory) told status × (new ≡ old))

-- what is left of a strip is reported, of counted rows or those of unknown height; or it can be
-- read in no form of these numbers, and nothing is changed
abbrev pub TellsStripSalvaged : AskedStrip → SalvageMemory → SalvageMemory → FaxTold → FaxTold → ℕ
    → Type 0
TellsStripSalvaged asked old new old_told told status =
    ((form : StripForm) × IsReadable asked.strip asked.form form
    × (filled : Filled) × IsTold filled told status
    × WritesLeft (of_strip form (bits form.order asked.strip)) 0 form.width form.rows asked.stride
    old filled new)
    ⊎ ((form : StripForm) × IsReadableUncounted asked.strip asked.form form
    × WritesUncounted form (bits form.order asked.strip) asked.stride old new told status)
    ⊎ ((status ≡ 7) × ((form : StripForm) → IsReadableIn asked.strip asked.form form → ⊥)
    × (new ≡ old) × (told ≡ old_told))
