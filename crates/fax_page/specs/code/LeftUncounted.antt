-- How the remaining rows are looked for, where the height is unknown.
use Rattle.std.specs.Prelude.{◌≡◌, ◌≢◌, ◌≤◌, ◌⊎◌, ◌+◌, ℕ, List, ◌++◌, length}
use Rattle.std.specs.Prelude.{Option, Some, None}
use Rattle.fax_page.specs.declared.StripFault.{StripFault}
use Rattle.fax_page.specs.declared.StripFault.TheVariants.{MissingEol}
use Rattle.fax_page.specs.declared.salvage_reader.Salvaged.{Salvaged}
use Rattle.fax_page.specs.declared.salvage_reader.Salvaged.TheVariants.{Found, Lost, Unterminated}
use Rattle.fax_page.specs.Strip.{most_rows}
use Rattle.fax_page.specs.Salvage.{SalvagedRow}
use Rattle.fax_page.specs.Uncounted.{RowsEnd}
use Rattle.fax_page.specs.views.LeftUncounted.{AreLeftFrom, UncountedState}
use Rattle.fax_page.specs.views.Salvage.{SalvageState}

-- what became of a row, and of no other, of those that are lost with it
abbrev pub alone : Salvaged → Salvaged
alone Found = Found
alone (Lost fault rows) = Lost fault 1
alone (Unterminated rows) = Unterminated 1

-- why a row is lost, if it is
abbrev pub fault_of : Salvaged → Option StripFault
fault_of Found = None
fault_of (Lost fault rows) = Some fault
fault_of (Unterminated rows) = Some MissingEol

-- the fault with which the rows end after one that was passed, where a strip has no more
abbrev pub IsFinalFaultAfter : SalvageState → Salvaged → Option StripFault → Type 0
IsFinalFaultAfter strip salvaged final_fault =
    ((strip.row ≡ most_rows) × (final_fault ≡ fault_of salvaged))
    ⊎ ((strip.row ≢ most_rows) × (final_fault ≡ None))

-- rows of a strip of unknown height are gone through as a strip of the most rows
pub record IsGoingThrough (strip : SalvageState) (row : ℕ) (final_fault : Option StripFault)
    : Type 0 where
  pub most : strip.form.rows ≡ most_rows
  pub few : row ≤ most_rows
  pub upcoming : final_fault ≡ None → row ≡ strip.row

-- so many rows are passed, and others are left
pub record HasPassed (old : UncountedState) (now : UncountedState) : Type 0 where
  pub done : List SalvagedRow
  pub same_form : now.strip.form ≡ old.strip.form
  pub count : now.row ≡ old.row + length done
  pub followed : (rows : List SalvagedRow) (end : RowsEnd) → AreLeftFrom now rows end
      → AreLeftFrom old (done ++ rows) end
