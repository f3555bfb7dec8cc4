-- Damaged rows of a strip of unknown height, of which those that are left are read, one after
-- another.
use Rattle.std.specs.Prelude.{◌≡◌, ℕ, ◌+◌, ◌≤◌, Bool, List, [], ◌∷◌, Option, None}
use Rattle.std.specs.Prelude.{length, Result, Ok, Err, MatchOption}
use Rattle.fax_bits.specs.declared.Colour.{Colour}
use Rattle.fax_page.specs.declared.StripForm.{StripForm}
use Rattle.fax_page.specs.declared.StripFault.{StripFault}
use Rattle.fax_page.specs.declared.salvage_reader.Salvaged.{Salvaged}
use Rattle.fax_page.specs.declared.salvage_reader.Salvaged.TheVariants.{Found, Lost, Unterminated}
use Rattle.fax_page.specs.Salvage.{SalvagedRow, found, lost, unended}
use Rattle.fax_page.specs.Uncounted.{Fault, RowsEnd, uncounted}
use Rattle.fax_page.specs.LeftUncounted.{AreLeftUncounted}
use Rattle.fax_page.specs.views.Salvage.{SalvageState, salvage_beginning}

-- how far they are gone through: as a strip of the most rows, how many rows were passed, and the
-- fault with which they end, once a row was lost after which none is expected
pub record UncountedState : Type 0 where
  pub strip : SalvageState
  pub row : ℕ
  pub final_fault : Option StripFault

-- before the first row of these bits
abbrev pub uncounted_beginning : StripForm → List Bool → UncountedState
uncounted_beginning form b =
    record { strip = salvage_beginning (uncounted form) b; row = 0; final_fault = None }

-- what is left from the next row on, and how the rows end
abbrev pub AreLeftFrom : UncountedState → List SalvagedRow → RowsEnd → Type 0
AreLeftFrom state rows end =
    MatchOption state.final_fault
    (AreLeftUncounted state.strip.form state.row state.strip.before state.strip.reference
    state.strip.upcoming rows end)
    (λ fault. (rows ≡ []) × (end ≡ Fault fault))

-- a row is passed, and this is what became of it
pub record PassesUncounted (old : UncountedState) (row : SalvagedRow) (new : UncountedState)
    : Type 0 where
  pub same_form : new.strip.form ≡ old.strip.form
  pub next : new.row ≡ old.row + 1
  pub within : new.row ≤ new.strip.form.rows
  pub followed : (rows : List SalvagedRow) (end : RowsEnd) → AreLeftFrom new rows end
      → AreLeftFrom old (row ∷ rows) end

-- all rows that are left are passed, and they end so
pub record PassesAll (old : UncountedState) (end : RowsEnd) (new : UncountedState) : Type 0 where
  pub rows : List SalvagedRow
  pub are : AreLeftFrom old rows end
  pub same_form : new.strip.form ≡ old.strip.form
  pub count : new.row ≡ old.row + length rows

-- what a call for the next row answers, each lost row alone, or how the rows end
abbrev pub IsUncountedStep : UncountedState → Result Salvaged RowsEnd → UncountedState → Type 0
IsUncountedStep old (Err end) new = AreLeftFrom old [] end × (new ≡ old)
IsUncountedStep old (Ok Found) new = PassesUncounted old (found new.strip.reference) new
IsUncountedStep old (Ok (Lost fault rows)) new =
    (rows ≡ 1) × PassesUncounted old (lost fault) new
IsUncountedStep old (Ok (Unterminated rows)) new =
    (row : List Colour) × (rows ≡ 1) × PassesUncounted old (unended row) new
