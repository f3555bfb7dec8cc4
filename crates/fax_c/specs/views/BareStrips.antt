-- The rows of a strip with no file around it, read into a raster, and coded from one.
-- A definition without a citation is this project's profile.
use Rattle.std.specs.Prelude.{◌≡◌, ◌≢◌, ℕ, ◌+◌, ◌-◌, ◌*◌, ◌<◌, ◌≤◌, ◌⊎◌, Bool, List, [], ◌∷◌, ◌++◌}
use Rattle.std.specs.Prelude.{length, take, drop, flat_map, Option, Some, None}
use Rattle.fax_bits.specs.Bits.{bits}
use Rattle.fax_rows.specs.Rows.{Colour, runs_of}
use Rattle.fax_rows.specs.Coded.{packed_len}
use Rattle.fax_page.specs.declared.StripForm.{StripForm}
use Rattle.fax_page.specs.Lines.{IsCause, IsLine, white_row}
use Rattle.fax_page.specs.Strip.{coded_strip, most_rows}
use Rattle.fax_page.specs.declared.StripFault.{StripFault}
use Rattle.fax_page.specs.declared.RowsEnd.{RowsEnd}
use Rattle.fax_page.specs.Uncounted.{rows_end}
use Rattle.fax_page.specs.views.Strip.{IsStripForm}
use Rattle.fax_files.specs.declared.Cause.TheVariants.{Strip}
use Rattle.fax_walk.specs.declared.end.End.TheVariants.{EndOfPages, Fault, Outside}
use Rattle.fax_c.specs.declared.fill.Filled.{Filled}
use Rattle.fax_c.specs.declared.fill.Stop.{Stop}
use Rattle.fax_c.specs.declared.fill.Stop.TheVariants.{Done, Ended, Memory, NoRoom}
use Rattle.fax_c.specs.declared.places.FaxPlace.{FaxPlace}
use Rattle.fax_c.specs.declared.strip_form.FaxStrip.{FaxStrip}
use Rattle.fax_c.specs.declared.told.FaxTold.{FaxTold}
use Rattle.fax_c.specs.Numbers.{bool_number, coding_number, order_number}
use Rattle.fax_c.specs.Raster.{AskedRaster, HoldsRaster, padded_row, rows_of_raster}
use Rattle.fax_c.specs.Told.{IsTold, IsToldWith, end_fault, end_status}
use Rattle.fax_c.specs.views.Places.{HasRuns, cursor_of, most_runs}
use Rattle.fax_c.specs.views.PlaceTexts.{IsTextTold}

-- these numbers are this form, which is within the limits
pub record IsStripFormGiven (given : FaxStrip) (form : StripForm) : Type 0 where
  pub width : given.width ≡ form.width
  pub rows : given.rows ≡ form.rows
  pub coding : given.coding ≡ coding_number form.coding
  pub order : given.order ≡ order_number form.order
  pub aligned : given.aligned ≡ bool_number form.aligned
  pub limits : IsStripForm form

-- a strip can be read in this form: each place of a bit in it has 32 bits
abbrev pub IsReadable : List ℕ → FaxStrip → StripForm → Type 0
IsReadable strip given form = IsStripFormGiven given form × (length strip ≤ 536870911)

-- or in this one, of unknown height, 0 by the numbers: they may be as many as a strip has
abbrev pub IsReadableUncounted : List ℕ → FaxStrip → StripForm → Type 0
IsReadableUncounted strip given form =
    (given.rows ≡ 0) × IsReadable strip (record given { rows = most_rows }) form

-- a strip can be read in this form, of counted rows or those of unknown height
abbrev pub IsReadableIn : List ℕ → FaxStrip → StripForm → Type 0
IsReadableIn strip given form =
    IsReadable strip given form ⊎ IsReadableUncounted strip given form

-- where a row of a strip is expected: its number, the bits before it, and the row before it
pub record StripPlace : Type 0 where
  pub row : ℕ
  pub bits : ℕ
  pub reference : List Colour

-- the caller's place is this one: the row before it has its runs, or is white where it has none
pub record IsPlace (width : ℕ) (place : FaxPlace) (runs : List ℕ) (at : StripPlace) : Type 0 where
  pub row : at.row ≡ place.row
  pub bits : at.bits ≡ place.bits
  pub width_is : length at.reference ≡ width
  pub reference : ((place.runs ≡ 0) × (at.reference ≡ white_row width))
      ⊎ (HasRuns place runs × (runs_of at.reference ≡ take place.runs runs))

-- a place of the caller's is this one, and inside the strip: a row is expected there
abbrev pub IsUpcomingAt : StripForm → List ℕ → FaxPlace → List ℕ → StripPlace → Type 0
IsUpcomingAt form strip place runs at =
    IsPlace form.width place runs at × (at.row < form.rows) × (at.bits ≤ 8 * length strip)

-- from a place of these bits to another stand these rows, each over the row before it, and each
-- ends inside the bits (T.4, section 4.2.1.1; T.6, section 2.2.1)
abbrev pub ReadsTo : StripForm → List Bool → StripPlace → List (List Colour) → StripPlace → Type 0
ReadsTo form all from [] to = from ≡ to
ReadsTo form all from (row ∷ rows) to =
    (bits : ℕ) × (bits ≤ length all) × (from.row < form.rows)
    × IsLine form from.row from.reference (drop from.bits all) row (drop bits all)
    × ReadsTo form all (record { row = from.row + 1; bits = bits; reference = row }) rows to

-- why a strip has no row after those that were read: a fault is in the way, or it has no more
abbrev pub stop_in_strip : ℕ → ℕ → Option StripFault → Stop
stop_in_strip page row None = Ended EndOfPages
stop_in_strip page row (Some fault) = Ended (Fault page row (Strip fault))

-- no more rows stand at a place of a strip, before these bits: it has all of them, or this fault is
-- in the way of the next
abbrev pub IsMet : StripForm → StripPlace → List Bool → Option StripFault → Type 0
IsMet form to remaining None = to.row ≡ form.rows
IsMet form to remaining (Some fault) =
    (to.row < form.rows) × IsCause form to.row to.reference remaining fault

-- why no row is read after a place: it has no room; or it has, and no more rows stand there
abbrev pub StopsAt : StripForm → List Bool → StripPlace → ℕ → ℕ → ℕ → Stop → Type 0
StopsAt form all to page stride remaining stop =
    ((stop ≡ Done) × (remaining < stride))
    ⊎ ((stride ≤ remaining) × (met : Option StripFault) × (stop ≡ stop_in_strip page to.row met)
    × IsMet form to (drop to.bits all) met)

-- the rows from one place of a strip to another are written, each in so many bytes, and no more
pub record AreStripRows (form : StripForm) (all : List Bool) (page stride : ℕ) (from : StripPlace)
    (old : List ℕ) (filled : Filled) (to : StripPlace) (new : List ℕ) : Type 0 where
  pub rows : List (List Colour)
  pub read : ReadsTo form all from rows to
  pub count : filled.count ≡ length rows
  pub used : filled.used ≡ length rows * stride
  pub written : new ≡ flat_map (padded_row stride) rows ++ drop filled.used old
  pub cursor : filled.cursor ≡ record { page = page; row = to.row }
  pub stops : StopsAt form all to page stride (length old - filled.used) filled.stop

-- a row has room in so many bytes, of which a raster has so many
abbrev pub HasRoom : StripForm → ℕ → ℕ → Type 0
HasRoom form stride room = (packed_len form.width ≤ stride) × (stride ≤ room)

-- after so many rows the place is the one after them, with its runs, and no other run is changed; a
-- place after none stays
abbrev pub IsPlaceAfter : ℕ → ℕ → FaxPlace → List ℕ → FaxPlace → List ℕ → StripPlace → Type 0
IsPlaceAfter width count old old_runs place runs to =
    ((count ≡ 0) × (place ≡ old) × (runs ≡ old_runs))
    ⊎ ((0 < count) × HasRuns place runs × IsPlace width place runs to × (place.page ≡ old.page)
    × (drop place.runs runs ≡ drop place.runs old_runs))

-- why nothing is read from a place: no row has room; or all rows were read, or it is no place of
-- the strip, or memory was refused
abbrev pub ReadsNone : StripForm → List ℕ → ℕ → FaxPlace → List ℕ → ℕ → Stop → Type 0
ReadsNone form strip stride place runs room stop =
    ((stop ≡ NoRoom) × (HasRoom form stride room → ⊥))
    ⊎ (HasRoom form stride room × (((stop ≡ Ended EndOfPages) × (place.row ≡ form.rows))
    ⊎ ((stop ≡ Ended Outside) × (place.row ≢ form.rows)
    × ((at : StripPlace) → IsUpcomingAt form strip place runs at → ⊥))
    ⊎ ((stop ≡ Memory) × (at : StripPlace) × IsUpcomingAt form strip place runs at)))

-- what is asked of a strip: its bytes, the numbers of its form, and how many bytes a row has
pub record AskedStrip : Type 0 where
  pub strip : List ℕ
  pub form : FaxStrip
  pub stride : ℕ

-- memory of the caller that is read and written: a place with its runs, and a raster
pub record StripMemory : Type 0 where
  pub place : FaxPlace
  pub runs : List ℕ
  pub raster : List ℕ

-- rows are read from a place on, which is then the one after them; or there are none, and nothing
-- is changed
abbrev pub ReadsOn : StripForm → List ℕ → ℕ → StripMemory → Filled → StripMemory → Type 0
ReadsOn form strip stride old filled new =
    (HasRoom form stride (length old.raster) × (from : StripPlace) × (to : StripPlace)
    × IsUpcomingAt form strip old.place old.runs from
    × AreStripRows form (bits form.order strip) old.place.page stride from old.raster filled to
    new.raster × IsPlaceAfter form.width filled.count old.place old.runs new.place new.runs to)
    ⊎ (ReadsNone form strip stride old.place old.runs (length old.raster) filled.stop
    × (filled.count ≡ 0) × (filled.used ≡ 0) × (filled.cursor ≡ cursor_of old.place)
    × (new ≡ old))

-- what of the strip itself stopped its rows, if it did: a fault is in the way, or it has no more
abbrev pub met_in_strip : Stop → Option (Option StripFault)
met_in_strip (Ended EndOfPages) = Some None
met_in_strip (Ended (Fault page row (Strip fault))) = Some (Some fault)
met_in_strip stop = None

-- how the rows of a strip of unknown height end at a place, where the strip itself stopped them;
-- else None
abbrev pub IsEndAt : FaxStrip → StripForm → List ℕ → FaxPlace → Stop → Option RowsEnd → Type 0
IsEndAt given form strip place stop None = (0 < given.rows) ⊎ (met_in_strip stop ≡ None)
IsEndAt given form strip place stop (Some end) =
    (given.rows ≡ 0) × (met : Option StripFault) × (met_in_strip stop ≡ Some met)
    × (end ≡ rows_end form.coding place.row (drop place.bits (bits form.order strip)) met)

-- what was written is reported, and that rows of a strip of unknown height end so at a place
abbrev pub IsRowsEndTold : Filled → FaxPlace → RowsEnd → FaxTold → ℕ → Type 0
IsRowsEndTold filled place end =
    IsToldWith filled (end_fault place.page place.row end) (end_status end)

-- what was written is reported, and how the rows end at a place, if that is to be reported
abbrev pub IsReadTold : Filled → FaxPlace → Option RowsEnd → FaxTold → ℕ → Type 0
IsReadTold filled place None told status = IsTold filled told status
IsReadTold filled place (Some end) told status = IsRowsEndTold filled place end told status

-- the rows of a strip from a place on are read and reported, counted ones or those of unknown
-- height; or it can be read in no form of these numbers, or not all runs of any row have room, and
-- nothing is changed
abbrev pub TellsStripRows : AskedStrip → StripMemory → StripMemory → FaxTold → FaxTold → ℕ → Type 0
TellsStripRows asked old new old_told told status =
    ((form : StripForm) × IsReadableIn asked.strip asked.form form
    × (most_runs ≤ length old.runs) × (filled : Filled)
    × ReadsOn form asked.strip asked.stride old filled new × (end : Option RowsEnd)
    × IsEndAt asked.form form asked.strip new.place filled.stop end
    × IsReadTold filled new.place end told status)
    ⊎ ((status ≡ 7) × (new ≡ old) × (told ≡ old_told)
    × ((form : StripForm) → IsReadableIn asked.strip asked.form form
    → most_runs ≤ length old.runs → ⊥))

-- these numbers are a form, and the bytes hold its raster
abbrev pub IsCodable : AskedRaster FaxStrip → StripForm → Type 0
IsCodable asked form =
    IsStripFormGiven asked.form form × (0 < asked.k)
    × HoldsRaster (length asked.raster) form.width form.rows asked.stride

-- the rows of a raster are coded as a strip, which is written where it has room, and its length
-- reported; or memory was refused; or the numbers are no form or the raster is too short; then
-- nothing is written
abbrev pub TellsStrip : AskedRaster FaxStrip → List ℕ → List ℕ → ℕ → ℕ → Type 0
TellsStrip asked old new len status =
    ((form : StripForm) × IsCodable asked form
    × (IsTextTold (coded_strip form asked.k
    (rows_of_raster form.width asked.stride asked.raster 0 form.rows)) old new len status
    ⊎ ((status ≡ 4) × (len ≡ 0) × (new ≡ old))))
    ⊎ ((status ≡ 7) × ((form : StripForm) → IsCodable asked form → ⊥)
    × (len ≡ 0) × (new ≡ old))
