-- What is left of a damaged page from a place on, reported.
use Rattle.std.specs.Prelude.{◌≡◌, ◌≢◌, ℕ, ◌+◌, ◌-◌, ◌*◌, ◌<◌, ◌≤◌, ◌⊎◌, List, [], ◌∷◌, ◌++◌}
use Rattle.std.specs.Prelude.{length, take, drop, flat_map, Ok, Err}
use Rattle.fax_rows.specs.Rows.{Colour, runs_of}
use Rattle.fax_rows.specs.Coded.{packed_len}
use Rattle.fax_page.specs.Lines.{white_row}
use Rattle.fax_walk.specs.declared.cursor.Cursor.{Cursor}
use Rattle.fax_walk.specs.declared.end.End.{End}
use Rattle.fax_walk.specs.declared.end.End.TheVariants.{EndOfPages, Outside}
use Rattle.fax_walk.specs.Items.{StripPosition}
use Rattle.fax_walk.specs.Pages.{FilePage, read_page}
use Rattle.fax_walk.specs.Salvaged.{PageRow, AreRowsFrom, IsRowOfStrip, strip_left}
use Rattle.fax_c.specs.declared.fill.Filled.{Filled}
use Rattle.fax_c.specs.declared.fill.Stop.{Stop}
use Rattle.fax_c.specs.declared.fill.Stop.TheVariants.{Done, Ended, Memory, NoRoom}
use Rattle.fax_c.specs.declared.places.FaxPlace.{FaxPlace}
use Rattle.fax_c.specs.declared.salvaged_raster.FaxLost.{FaxLost}
use Rattle.fax_c.specs.declared.told.FaxTold.{FaxTold}
use Rattle.fax_c.specs.Raster.{padded_row}
use Rattle.fax_c.specs.SalvagedRaster.{found_of, lost_from}
use Rattle.fax_c.specs.Told.{IsTold, none_filled_at}
use Rattle.fax_c.specs.views.Places.{HasRuns, cursor_of, most_runs, place_at}

-- the most bytes of a file that is read so: each place of a bit in it has 32 bits
abbrev pub most_bytes : ℕ
most_bytes = 536870911

-- so many bytes, of which some are used, have room for a row more, and a table for a stretch more
abbrev pub HasRoomForBoth : ℕ → ℕ → ℕ → ℕ → ℕ → Type 0
HasRoomForBoth len used stride stretches room = (stride ≤ len - used) × (stretches < room)

-- or one of both has not
abbrev pub IsFull : ℕ → ℕ → ℕ → ℕ → ℕ → Type 0
IsFull len used stride stretches room = (len - used < stride) ⊎ (room ≤ stretches)

-- a row of a width has room, and a stretch
abbrev pub HasRoomFor : ℕ → ℕ → ℕ → ℕ → Type 0
HasRoomFor width stride len room = (packed_len width ≤ stride) × HasRoomForBoth len 0 stride 0 room

-- a place of the caller's is row i of strip s of a page, read so: at the strip's beginning, where
-- it has no runs; else after its bits, and over the row with its runs
pub record IsPlaceOn (file : List ℕ) (here : FilePage) (place : FaxPlace) (runs : List ℕ) (s i : ℕ)
    (at : StripPosition) : Type 0 where
  pub row : IsRowOfStrip here.form place.row s i
  pub within : at.bits ≤ 8 * length (strip_left here file s).0
  pub width : length at.reference ≡ here.form.width
  pub so : ((place.runs ≡ 0) × (i ≡ 0) × (at.bits ≡ 0) × (at.reference ≡ white_row here.form.width))
      ⊎ (HasRuns place runs × (at.bits ≡ place.bits)
      × (runs_of at.reference ≡ take place.runs runs))

-- the last of these rows is found
abbrev pub EndsFound : List PageRow → Type 0
EndsFound rows = (before : List PageRow) × (row : List Colour) × (rows ≡ before ++ Ok row ∷ [])

-- after these rows, which are left from row r of a page on and of which the last is found, one more
-- row or one more stretch has no room
pub record IsFullAfter (page r stride len room : ℕ) (rows : List PageRow) : Type 0 where
  pub found : EndsFound rows
  pub full : IsFull len (length (found_of rows) * stride) stride (length (lost_from page r rows))
      room

-- why no more is written after these rows: they are the first after which no more has room; or no
-- other row is left of the page, and after none of them was that so
abbrev pub StopsAfter : ℕ → ℕ → ℕ → ℕ → ℕ → List PageRow → List PageRow → Stop → Type 0
StopsAfter page r stride len room passed rest Done =
    IsFullAfter page r stride len room passed
    × ((first others : List PageRow) → passed ≡ first ++ others → others ≢ []
    → IsFullAfter page r stride len room first → ⊥)
StopsAfter page r stride len room passed rest (Ended EndOfPages) =
    (rest ≡ [])
    × ((first others : List PageRow) → passed ≡ first ++ others
    → IsFullAfter page r stride len room first → ⊥)
StopsAfter page r stride len room passed rest stop = ⊥

-- of these rows, which are left from row r of a page on, the first ones are written: those that are
-- found one after another, each in so many bytes, and the stretches of those that are lost; nothing
-- else is changed
pub record AreFirstWritten (page r stride : ℕ) (rows rest : List PageRow) (old : List ℕ)
    (old_lost : List FaxLost) (filled : Filled) (new : List ℕ) (lost : List FaxLost) : Type 0 where
  pub passed : List PageRow
  pub split : rows ≡ passed ++ rest
  pub count : filled.count ≡ length (found_of passed)
  pub used : filled.used ≡ length (lost_from page r passed)
  pub cursor : filled.cursor ≡ record { page = page; row = r + length passed }
  pub written : new ≡ flat_map (padded_row stride) (found_of passed)
      ++ drop (filled.count * stride) old
  pub lost_are : lost ≡ lost_from page r passed ++ drop filled.used old_lost
  pub stops : StopsAfter page r stride (length old) (length old_lost) passed rest filled.stop

-- the place after the rows that were written, from which on this is left, and no run but its own is
-- changed: a place of the page, or the one after its last row
abbrev pub IsPlaceAfterLeft : List ℕ → FilePage → List PageRow → Cursor → FaxPlace → List ℕ → List ℕ
    → Type 0
IsPlaceAfterLeft file here rest cursor place old_runs runs =
    (cursor_of place ≡ cursor) × (drop place.runs runs ≡ drop place.runs old_runs)
    × (((cursor.row ≡ here.form.rows) × (place ≡ place_at cursor) × (rest ≡ []))
    ⊎ ((s : ℕ) × (i : ℕ) × (at : StripPosition) × IsPlaceOn file here place runs s i at
    × AreRowsFrom file here s i at rest))

-- why nothing is written from a place on: a row or a stretch has no room; or no row of the page is
-- left, or it is no place of the page, or it is one, and memory was refused
abbrev pub WritesNone : List ℕ → FilePage → ℕ → FaxPlace → List ℕ → ℕ → ℕ → Stop → Type 0
WritesNone file here stride place runs len room NoRoom =
    HasRoomFor here.form.width stride len room → ⊥
WritesNone file here stride place runs len room (Ended EndOfPages) =
    HasRoomFor here.form.width stride len room × (place.row ≡ here.form.rows)
WritesNone file here stride place runs len room (Ended Outside) =
    HasRoomFor here.form.width stride len room × (place.row ≢ here.form.rows)
    × ((s i : ℕ) (at : StripPosition) → IsPlaceOn file here place runs s i at → ⊥)
WritesNone file here stride place runs len room Memory =
    HasRoomFor here.form.width stride len room × (place.row < here.form.rows)
    × ((s i : ℕ) → IsRowOfStrip here.form place.row s i
    → (at : StripPosition) × IsPlaceOn file here place runs s i at)
WritesNone file here stride place runs len room stop = ⊥

-- memory of the caller that is written: a place with its runs, a raster, a table of stretches
pub record LeftMemory : Type 0 where
  pub place : FaxPlace
  pub runs : List ℕ
  pub raster : List ℕ
  pub lost : List FaxLost

-- what is left of a page from a place on is written, which is then the one after it; or nothing is,
-- and nothing is changed
abbrev pub WritesFrom : List ℕ → FilePage → ℕ → LeftMemory → Filled → LeftMemory → Type 0
WritesFrom file here stride old filled new =
    (HasRoomFor here.form.width stride (length old.raster) (length old.lost)
    × (s : ℕ) × (i : ℕ) × (at : StripPosition) × IsPlaceOn file here old.place old.runs s i at
    × (rows : List PageRow) × (rest : List PageRow) × AreRowsFrom file here s i at rows
    × AreFirstWritten old.place.page old.place.row stride rows rest old.raster old.lost filled
    new.raster new.lost × IsPlaceAfterLeft file here rest filled.cursor new.place old.runs new.runs)
    ⊎ (WritesNone file here stride old.place old.runs (length old.raster) (length old.lost)
    filled.stop × (filled ≡ none_filled_at (cursor_of old.place) filled.stop) × (new ≡ old))

-- a page has the number of a place, and what is left of it is written and reported; or there is no
-- such page; or the file is too long, or not all runs of any row have room; then nothing is changed
abbrev pub TellsSalvagedFrom : List ℕ → ℕ → LeftMemory → LeftMemory → FaxTold → FaxTold → ℕ
    → Type 0
TellsSalvagedFrom file stride old new old_told told status =
    ((length file ≤ most_bytes) × (most_runs ≤ length old.runs)
    × (filled : Filled) × IsTold filled told status
    × (((here : FilePage) × (read_page file (record { page = old.place.page; row = 0 }) ≡ Ok here)
    × WritesFrom file here stride old filled new)
    ⊎ ((end : End) × (read_page file (record { page = old.place.page; row = 0 }) ≡ Err end)
    × (filled ≡ none_filled_at (cursor_of old.place) (Ended end)) × (new ≡ old))))
    ⊎ ((status ≡ 7) × (length file ≤ most_bytes → most_runs ≤ length old.runs → ⊥)
    × (new ≡ old) × (told ≡ old_told))
