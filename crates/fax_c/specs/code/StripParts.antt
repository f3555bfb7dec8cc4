-- What bytes that follow may change.
use Rattle.std.specs.Prelude.{◌≡◌, ℕ, ◌*◌, ◌<◌, ◌≤◌, ◌⊎◌, Bool, List, length, drop}
use Rattle.std.specs.Prelude.{Option, Some, None}
use Rattle.fax_bits.specs.Bits.{bits}
use Rattle.fax_page.specs.declared.Coding.{Coding}
use Rattle.fax_page.specs.declared.RowsEnd.{RowsEnd}
use Rattle.fax_page.specs.declared.StripFault.TheVariants.{DataEnds}
use Rattle.fax_page.specs.declared.StripForm.{StripForm}
use Rattle.fax_files.specs.declared.Cause.TheVariants.{Strip}
use Rattle.fax_walk.specs.declared.end.End.TheVariants.{Fault, Outside}
use Rattle.fax_c.specs.declared.fill.Filled.{Filled}
use Rattle.fax_c.specs.declared.fill.Stop.{Stop}
use Rattle.fax_c.specs.declared.fill.Stop.TheVariants.{Ended}
use Rattle.fax_c.specs.declared.places.FaxPlace.{FaxPlace}
use Rattle.fax_c.specs.declared.told.FaxTold.{FaxTold}
use Rattle.fax_c.specs.Told.{IsToldWith, no_fault}
use Rattle.fax_c.specs.views.StripParts.{MayChange}

-- a place may be one of a strip where more bytes follow: a row is expected there, after these bytes
abbrev pub IsAhead : StripForm → List ℕ → FaxPlace → Type 0
IsAhead form strip place =
    (place.row < form.rows) × (8 * length strip < place.bits) × (place.bits ≤ 8 * 536870911)

-- the stop may be another one where more bytes follow: the data end in a row, or before its place
abbrev pub StopMayChange : StripForm → List ℕ → FaxPlace → Stop → Type 0
StopMayChange form strip place (Ended (Fault page row (Strip fault))) = fault ≡ DataEnds
StopMayChange form strip place (Ended Outside) = IsAhead form strip place
StopMayChange form strip place stop = ⊥

-- where rows of a strip of unknown height end so, before these bits, they may end otherwise
abbrev pub EndMayChange : Coding → List Bool → Option RowsEnd → Type 0
EndMayChange coding remaining None = ⊥
EndMayChange coding remaining (Some end) = MayChange coding remaining end

-- what is reported of a strip up to a place may be something else where more bytes follow
abbrev pub MayGoOn : StripForm → List ℕ → FaxPlace → Stop → Option RowsEnd → Type 0
MayGoOn form strip place stop end =
    StopMayChange form strip place stop
    ⊎ EndMayChange form.coding (drop place.bits (bits form.order strip)) end

-- what was written is reported, and that more is waited for
abbrev pub IsMoreTold : Filled → FaxTold → ℕ → Type 0
IsMoreTold filled = IsToldWith filled no_fault 10
