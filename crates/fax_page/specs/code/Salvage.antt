-- How the remaining rows of a damaged strip are looked for.
use Rattle.std.specs.Prelude.{◌≡◌, ◌≢◌, ◌≤◌, ◌⊎◌, ◌+◌, ◌-◌, ℕ, Bool, true, false, List, ◌++◌}
use Rattle.std.specs.Prelude.{length}
use Rattle.std.specs.Prelude.{drop, Option, Some, None, MatchOption}
use Rattle.fax_bits.specs.Bits.{bits}
use Rattle.fax_bits.specs.views.Source.{Source}
use Rattle.fax_page.specs.Lines.{Coding, Mmr, StripForm, read_start}
use Rattle.fax_page.specs.code.Starts.{BeginsBelowEleven}
use Rattle.fax_page.specs.Strip.{eol_bits}
use Rattle.fax_page.specs.Lines.{white_row}
use Rattle.fax_page.specs.declared.StripFault.{StripFault}
use Rattle.fax_page.specs.views.Reader.{StripState, bits_left}
use Rattle.fax_page.specs.views.Salvage.{SalvageState}
use Rattle.fax_page.specs.Salvage.{IsTwoDimensionalNext, resync_from, after_eol, resync_point}

-- where the next EOL is looked for after row i, which is lost
abbrev pub IsSoughtFrom : Coding → ℕ → List Bool → List Bool → Type 0
IsSoughtFrom coding i b from = resync_from b (read_start coding i b) ≡ from

-- whether row i is one of the strip's, and coded over the row before it
abbrev pub SaysTwoDimensional : StripForm → ℕ → List Bool → Bool → Type 0
SaysTwoDimensional form i b true = (i ≢ form.rows) × IsTwoDimensionalNext form.coding i b
SaysTwoDimensional form i b false = i ≢ form.rows → IsTwoDimensionalNext form.coding i b → ⊥

-- whether an EOL is expected before row i, and something else stands there
abbrev pub SaysUnended : StripForm → ℕ → List Bool → Bool → Type 0
SaysUnended form i b true = (form.coding ≢ Mmr) × (i ≢ form.rows) × BeginsBelowEleven b
SaysUnended form i b false = form.coding ≢ Mmr → i ≢ form.rows → BeginsBelowEleven b → ⊥

-- a place stands among the bits of a source, and these bits begin there
pub record IsAmong (source : Source) (place : ℕ) (b : List Bool) : Type 0 where
  pub before : ℕ
  pub place_is : place ≡ source.place + before
  pub within : before ≤ length source.remaining
  pub bits_are : drop before source.remaining ≡ b

-- where the first EOL of a source begins, if it has one
abbrev pub IsFirstEol : Source → Option ℕ → Type 0
IsFirstEol source found =
    MatchOption found (after_eol 0 source.remaining ≡ None)
    (λ place. (rest : List Bool) × (after_eol 0 source.remaining ≡ Some rest)
    × IsAmong source place (eol_bits ++ rest))

-- where the row after row i comes next, which is lost and begins at a source
abbrev pub IsNextEol : Coding → ℕ → Source → Option ℕ → Type 0
IsNextEol coding i start found =
    (from : List Bool) × IsSoughtFrom coding i start.remaining from
    × MatchOption found (resync_point coding from ≡ None)
    (λ place. (upcoming : List Bool) × (resync_point coding from ≡ Some upcoming)
    × IsAmong start place upcoming)

-- the first zeros of an EOL are looked for: so many bits of the source were passed by, and no EOL
-- is among them
pub record IsPassedBy (source : Source) (at : Source) : Type 0 where
  pub before : ℕ
  pub within : before ≤ length source.remaining
  pub at_is : at ≡ record {
    remaining = drop before source.remaining;
    place = source.place + before;
  }
  pub no_eol : after_eol 0 source.remaining ≡ after_eol 0 at.remaining

-- a reader has gone on after row i, which is lost and begins after so many bits of its strip, and
-- so many rows are lost: that one alone, or all others too, where no EOL is left
abbrev pub PassesLost : StripState → ℕ → ℕ → ℕ → StripState → Type 0
PassesLost old i n rows new =
    (from : List Bool)
    × IsSoughtFrom old.form.coding i (drop n (bits old.form.order old.bytes)) from
    × (new.form ≡ old.form) × (new.fault ≡ None)
    × MatchOption (resync_point old.form.coding from)
    ((rows ≡ old.form.rows - i) × (new.row ≡ old.form.rows))
    (λ upcoming. (rows ≡ 1) × (new.row ≡ i + 1) × (new.reference ≡ white_row old.form.width)
    × (bits_left new ≡ upcoming))

-- why the row before the next one is lost, where a row is expected and coded over it
abbrev pub IsOverLost : SalvageState → Option StripFault → Type 0
IsOverLost state (Some fault) =
    (state.row ≢ state.form.rows) × (state.before ≡ Some fault)
    × IsTwoDimensionalNext state.form.coding state.row state.upcoming
IsOverLost state None =
    state.row ≢ state.form.rows
    → (state.before ≡ None) ⊎ (IsTwoDimensionalNext state.form.coding state.row state.upcoming → ⊥)

-- a strip that a reader of its rows goes through, where the row before the next one is lost for
-- this cause, if it is
abbrev pub salvaging : StripState → Option StripFault → SalvageState
salvaging reader before = record {
  form = reader.form;
  row = reader.row;
  upcoming = bits_left reader;
  reference = reader.reference;
  before = before;
}
