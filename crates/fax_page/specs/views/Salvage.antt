-- A damaged strip of which the remaining rows are read, one after another.
use Rattle.std.specs.Prelude.{◌≡◌, ◌≢◌, ℕ, ◌+◌, ◌-◌, ◌*◌, ◌<◌, ◌≤◌, Bool, List, length, drop}
use Rattle.std.specs.Prelude.{Option, Some, None, MatchOption, Result, Ok, Err}
use Rattle.fax_bits.specs.Bits.{bits}
use Rattle.fax_bits.specs.declared.Colour.{Colour}
use Rattle.fax_page.specs.declared.PlaceFault.{PlaceFault}
use Rattle.fax_page.specs.declared.PlaceFault.TheVariants.{Memory, Outside}
use Rattle.fax_page.specs.declared.ReferenceRow.{ReferenceRow}
use Rattle.fax_page.specs.views.Reader.{IsBefore}
use Rattle.fax_page.specs.declared.StripForm.{StripForm}
use Rattle.fax_page.specs.declared.StripFault.{StripFault}
use Rattle.fax_page.specs.declared.StripFault.TheVariants.{MissingEol}
use Rattle.fax_page.specs.declared.salvage_reader.Salvaged.{Salvaged}
use Rattle.fax_page.specs.declared.salvage_reader.Salvaged.TheVariants.{Found, Lost, Unterminated}
use Rattle.fax_page.specs.Lines.{in_code, next_one, read_start, white_row}
use Rattle.fax_page.specs.Salvage.{resync_from, IsReadFrom, NeedsEol, IsLostBecause, resync_point}

-- how far a strip is gone through: its form, the next row, the bits from there on, the row before
-- it, and the cause for which that one is lost, if it is
pub record SalvageState : Type 0 where
  pub form : StripForm
  pub row : ℕ
  pub upcoming : List Bool
  pub reference : List Colour
  pub before : Option StripFault

-- before row i of a strip, which begins with these bits, over this row, which is not lost
abbrev pub salvage_from : StripForm → ℕ → List Bool → List Colour → SalvageState
salvage_from form i upcoming reference =
    record { form = form; row = i; upcoming = upcoming; reference = reference; before = None }

-- before the first row of these bits
abbrev pub salvage_beginning : StripForm → List Bool → SalvageState
salvage_beginning form b = salvage_from form 0 b (white_row form.width)

-- before row i of the bytes, after so many bits, with this row before it; or there is no such
-- place, or memory was refused
abbrev pub IsSalvageInside : StripForm → List ℕ → ℕ → ℕ → ReferenceRow
    → Result SalvageState PlaceFault → Type 0
IsSalvageInside form bytes i place before (Ok state) =
    (place ≤ 8 * length bytes) × IsBefore form.width before state.reference
    × (state ≡ salvage_from form i (drop place (bits form.order bytes)) state.reference)
IsSalvageInside form bytes i place before (Err Outside) =
    place ≤ 8 * length bytes → (row : List Colour) → IsBefore form.width before row → ⊥
IsSalvageInside form bytes i place before (Err Memory) =
    (place ≤ 8 * length bytes) × (row : List Colour) × IsBefore form.width before row

-- so many rows are lost from the next one on, for this cause: that one alone, and the next one
-- begins at the next EOL; or all, where no EOL is left
abbrev pub IsAfterLost : SalvageState → StripFault → ℕ → SalvageState → Type 0
IsAfterLost old fault rows new =
    (from : List Bool) × (resync_from old.upcoming (read_start old.form.coding old.row old.upcoming)
    ≡ from)
    × MatchOption (resync_point old.form.coding from)
    ((rows ≡ old.form.rows - old.row) × (new.form ≡ old.form) × (new.row ≡ old.form.rows))
    (λ upcoming. (rows ≡ 1) × (new ≡ record {
      form = old.form;
      row = old.row + 1;
      upcoming = upcoming;
      reference = white_row old.form.width;
      before = Some fault;
    }))

-- the next row is found: it is the reference of the next one
pub record FindsRow (old new : SalvageState) : Type 0 where
  pub upcoming : old.row < old.form.rows
  pub read : IsReadFrom old.form old.row old.before old.reference old.upcoming new.reference
      new.upcoming
  pub ended : NeedsEol old.form old.row → next_one 0 new.upcoming ≢ in_code
  pub new_is : new ≡ record old {
    row = old.row + 1;
    upcoming = new.upcoming;
    reference = new.reference;
    before = None;
  }

-- what a call for the next row answers
abbrev pub IsSalvageStep : SalvageState → Option Salvaged → SalvageState → Type 0
IsSalvageStep old None new = (old.row ≡ old.form.rows) × (new ≡ old)
IsSalvageStep old (Some Found) new = FindsRow old new
IsSalvageStep old (Some (Lost fault rows)) new =
    (old.row < old.form.rows)
    × IsLostBecause old.form old.row old.before old.reference old.upcoming fault
    × IsAfterLost old fault rows new
IsSalvageStep old (Some (Unterminated rows)) new =
    (row : List Colour) × (rest : List Bool)
    × IsReadFrom old.form old.row old.before old.reference old.upcoming row rest
    × NeedsEol old.form old.row × (next_one 0 rest ≡ in_code) × IsAfterLost old MissingEol rows new
