-- The rows of a strip of which the first bytes are there, where more may follow.
-- A definition without a citation is this project's profile.
use Rattle.std.specs.Prelude.{◌≡◌, ℕ, ◌-◌, ◌*◌, ◌<◌, ◌≤◌, ◌⊎◌, Bool, List, ◌++◌, length, drop}
use Rattle.std.specs.Prelude.{flat_map, ⊤, Option, None}
use Rattle.fax_bits.specs.Bits.{bits}
use Rattle.fax_rows.specs.Rows.{Colour}
use Rattle.fax_page.specs.declared.Coding.{Coding}
use Rattle.fax_page.specs.declared.RowsEnd.{RowsEnd}
use Rattle.fax_page.specs.declared.RowsEnd.TheVariants.{Marked, DataEnd, Fault, TooMany}
use Rattle.fax_page.specs.declared.StripFault.{StripFault}
use Rattle.fax_page.specs.declared.StripFault.TheVariants.{DataEnds, EndMarker}
use Rattle.fax_page.specs.declared.StripForm.{StripForm}
use Rattle.fax_page.specs.Lines.{IsCause}
use Rattle.fax_page.specs.Uncounted.{MayHaveEndMark, rows_end}
use Rattle.fax_c.specs.declared.places.FaxPlace.{FaxPlace}
use Rattle.fax_c.specs.declared.strip_form.FaxStrip.{FaxStrip}
use Rattle.fax_c.specs.declared.told.FaxTold.{FaxTold}
use Rattle.fax_c.specs.Raster.{padded_row}
use Rattle.fax_c.specs.Told.{no_fault}
use Rattle.fax_c.specs.views.Places.{most_runs}
use Rattle.fax_c.specs.views.BareStrips.{AskedStrip, HasRoom, IsUpcomingAt, IsPlaceAfter}
use Rattle.fax_c.specs.views.BareStrips.{IsMet, IsReadableIn}
use Rattle.fax_c.specs.views.BareStrips.{ReadsTo, StripMemory, StripPlace, TellsStripRows}

-- the rows from one place of a strip to another are written and reported, each in so many bytes,
-- and are the same whatever bytes follow; the place is the one after them, and no fault is reported
pub record ArePartRead (form : StripForm) (asked : AskedStrip) (old new : StripMemory)
    (told : FaxTold) (to : StripPlace) : Type 0 where
  pub from : StripPlace
  pub upcoming : IsUpcomingAt form asked.strip old.place old.runs from
  pub rows : List (List Colour)
  pub read : (more : List ℕ) → ReadsTo form (bits form.order (asked.strip ++ more)) from rows to
  pub count : told.count ≡ length rows
  pub used : told.used ≡ length rows * asked.stride
  pub written : new.raster ≡ flat_map (padded_row asked.stride) rows ++ drop told.used old.raster
  pub page : told.page ≡ old.place.page
  pub row : told.row ≡ to.row
  pub place_is : IsPlaceAfter form.width told.count old.place old.runs new.place new.runs to

-- nothing is read, and nothing changed
pub record IsNothingRead (old new : StripMemory) (told : FaxTold) : Type 0 where
  pub unchanged : new ≡ old
  pub count : told.count ≡ 0
  pub used : told.used ≡ 0
  pub page : told.page ≡ old.place.page
  pub row : told.row ≡ old.place.row

-- rows of a strip of unknown height, after which these bits are left, may end otherwise where more
-- follow: the data end in a row or after it, or an end mark may stand there
abbrev pub MayChange : Coding → List Bool → RowsEnd → Type 0
MayChange coding remaining Marked = ⊥
MayChange coding remaining DataEnd = ⊤
MayChange coding remaining (Fault fault) =
    (fault ≡ DataEnds) ⊎ ((fault ≡ EndMarker) × MayHaveEndMark coding remaining)
MayChange coding remaining TooMany = MayHaveEndMark coding remaining

-- the next row at a place is not settled by these bytes: they end in it; or the height is unknown,
-- and those up to there may end otherwise where more follow
abbrev pub IsUnsettled : FaxStrip → StripForm → List ℕ → StripPlace → Type 0
IsUnsettled given form strip to =
    let remaining = drop to.bits (bits form.order strip) in
    ((to.row < form.rows) × IsCause form to.row to.reference remaining DataEnds)
    ⊎ ((given.rows ≡ 0) × (stop : Option StripFault) × IsMet form to remaining stop
    × MayChange form.coding remaining (rows_end form.coding to.row remaining stop))

-- no row is read from a place that these bytes do not settle: they end before it, and a strip may
-- reach it; or the height is unknown, they are as many as a strip has, and may end otherwise
abbrev pub IsUnsettledAt : FaxStrip → StripForm → List ℕ → FaxPlace → Type 0
IsUnsettledAt given form strip place =
    let remaining = drop place.bits (bits form.order strip) in
    ((place.row < form.rows) × (8 * length strip < place.bits) × (place.bits ≤ 8 * 536870911))
    ⊎ ((given.rows ≡ 0) × (place.row ≡ form.rows)
    × MayChange form.coding remaining (rows_end form.coding place.row remaining None))

-- rows are read up to one that has room and is not settled
abbrev pub AwaitsMore : StripForm → AskedStrip → StripMemory → StripMemory → FaxTold → Type 0
AwaitsMore form asked old new told =
    HasRoom form asked.stride (length old.raster) × (told.fault ≡ no_fault)
    × (((to : StripPlace) × ArePartRead form asked old new told to
    × (asked.stride ≤ length old.raster - told.used)
    × IsUnsettled asked.form form asked.strip to)
    ⊎ (IsNothingRead old new told × IsUnsettledAt asked.form form asked.strip old.place))

-- what is reported of these bytes is reported of them alone, and of all bytes, whatever follows; or
-- rows are read up to one that is not settled, and more bytes are waited for
abbrev pub TellsStripPart : AskedStrip → StripMemory → StripMemory → FaxTold → FaxTold → ℕ → Type 0
TellsStripPart asked old new old_told told status =
    (TellsStripRows asked old new old_told told status
    × ((more : List ℕ) → length (asked.strip ++ more) ≤ 536870911
    → TellsStripRows (record asked { strip = asked.strip ++ more }) old new old_told told status))
    ⊎ ((status ≡ 10) × (form : StripForm) × IsReadableIn asked.strip asked.form form
    × (most_runs ≤ length old.runs) × AwaitsMore form asked old new told)
