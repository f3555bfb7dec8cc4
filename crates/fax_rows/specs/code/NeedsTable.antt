-- What of a row in two-dimensional coding is expected where no look-up finds the next code.
use Rattle.std.specs.Prelude.{◌≡◌, ℕ, ◌+◌, ◌≤◌, ◌++◌, Bool, List, Option, None, Some, IfSome}
use Rattle.std.specs.Prelude.{IsTrue, ⊤, length}
use Rattle.fax_bits.specs.declared.Colour.{Colour}
use Rattle.fax_bits.specs.declared.mode_codes.ModeCode.TheVariants.{Horizontal}
use Rattle.fax_bits.specs.Codes.{Decodes, IsRun}
use Rattle.fax_bits.specs.Tables.{modes}
use Rattle.fax_bits.specs.Written.{run_bits}
use Rattle.fax_rows.specs.declared.change_list.ChangingElements.{ChangingElements}
use Rattle.fax_rows.specs.declared.two_dimensional.horizontal_runs.NeedsTable.{NeedsTable}
use Rattle.fax_rows.specs.declared.two_dimensional.horizontal_runs.NeedsTable.TheVariants.{Mode}
use Rattle.fax_rows.specs.declared.two_dimensional.horizontal_runs.NeedsTable.TheVariants.{Runs}
use Rattle.fax_rows.specs.declared.two_dimensional.horizontal_runs.TwoRuns.{TwoRuns}
use Rattle.fax_rows.specs.declared.two_dimensional.steps.CodingState.{CodingState}
use Rattle.fax_rows.specs.Rows.{other}
use Rattle.fax_rows.specs.code.Chosen.{AreTwoRuns}
use Rattle.fax_rows.specs.code.CodingState.{IsCodingStateInRow}
use Rattle.fax_rows.specs.code.CodingPosition.{position_pel}

-- the bits begin with two runs within the row, where it is asked for written as T.4 chooses
pub record AreReadRuns (choice : Bool) (colour : Colour) (width from : ℕ) (b : List Bool)
    (runs : TwoRuns) (rest : List Bool) : Type 0 where
  pub found : AreTwoRuns colour b runs.first runs.second rest
  pub written : IsTrue choice
      → b ≡ (run_bits colour runs.first ++ run_bits (other colour) runs.second) ++ rest
  pub within : from + runs.first + runs.second ≤ width

-- two runs are expected, or the second one after a first one that T.4 chooses
abbrev pub AreRunsNeeded : Colour → List Bool → Option ℕ → List Bool → Type 0
AreRunsNeeded colour b None remaining = b ≡ remaining
AreRunsNeeded colour b (Some first) remaining = IsRun colour b first remaining
    × (b ≡ run_bits colour first ++ remaining)

-- a mode is expected, or runs of horizontal mode
abbrev pub IsNeeded : Colour → List Bool → NeedsTable → List Bool → Type 0
IsNeeded colour b Mode remaining = b ≡ remaining
IsNeeded colour b (Runs first) remaining =
    (middle : List Bool) × Decodes modes b Horizontal middle
    × AreRunsNeeded colour middle first remaining

-- the first run is within the row
abbrev pub IsNeededWithin : ℕ → ℕ → NeedsTable → Type 0
IsNeededWithin width from Mode = ⊤
IsNeededWithin width from (Runs first) = IfSome first (λ n. from + n ≤ width)

-- this is expected at a place inside the row
pub record IsNeededAt (reference : ChangingElements) (changes : List ℕ) (at : CodingState) (b : List
    Bool)
    (needed : NeedsTable) (remaining : List Bool) : Type 0 where
  pub inside : IsCodingStateInRow reference changes at
  pub within : IsNeededWithin reference.width (position_pel at.position) needed
  pub read : IsNeeded at.position.colour b needed remaining
  pub no_longer : length remaining ≤ length b

-- runs of horizontal mode are expected, after its code, and no place was put
pub record AreRunsNeededAt (reference : ChangingElements) (old new : List ℕ) (at : CodingState)
    (b : List Bool) (first : Option ℕ) (remaining : List Bool) : Type 0 where
  pub same : new ≡ old
  pub fits : IfSome first (λ n. position_pel at.position + n ≤ reference.width)
  pub read : AreRunsNeeded at.position.colour b first remaining
  pub no_longer : length remaining ≤ length b
