-- Why a row in two-dimensional coding is not read on.
use Rattle.std.specs.Prelude.{◌≡◌, ℕ, Bool, List, IsTrue}
use Rattle.fax_bits.specs.Reading.{failed}
use Rattle.fax_rows.specs.ReadRows.{read_two_dimensional}
use Rattle.fax_rows.specs.declared.RowFault.{RowFault}
use Rattle.fax_rows.specs.declared.change_list.ChangingElements.{ChangingElements}
use Rattle.fax_rows.specs.declared.two_dimensional.horizontal_runs.RowStop.{RowStop}
use Rattle.fax_rows.specs.declared.two_dimensional.horizontal_runs.RowStop.TheVariants as Stops
use Rattle.fax_rows.specs.declared.two_dimensional.horizontal_runs.LookupExit.{LookupExit}
use Rattle.fax_rows.specs.declared.two_dimensional.horizontal_runs.LookupExit.TheVariants as Unreads
use Rattle.fax_rows.specs.declared.two_dimensional.steps.CodingState.{CodingState}
use Rattle.fax_rows.specs.code.CodingSteps.{IsStepFault}
use Rattle.fax_rows.specs.code.CodingState.{coding_position}
use Rattle.fax_rows.specs.code.ChangingElements.{element_pels}

-- a fault of these; where T.4's choice is asked for, any step
abbrev pub IsStopOf : Bool → (RowFault → Type 0) → RowStop → Type 0
IsStopOf choice faults Stops.Other = IsTrue choice
IsStopOf choice faults (Stops.Fault fault) = faults fault

-- something of these that is expected, or one of these stops
abbrev pub IsLookupExit : {D : Type 0} → (RowStop → Type 0) → (D → Type 0) → LookupExit D → Type 0
IsLookupExit stops needs (Unreads.NeedsTable needed) = needs needed
IsLookupExit stops needs (Unreads.Stopped stop) = stops stop

-- a fault of the step that the bits begin with
abbrev pub IsStepStop : Bool → ChangingElements → List ℕ → CodingState → List Bool → RowStop
    → Type 0
IsStepStop choice reference changes at b stop =
    IsStopOf choice (λ fault. IsStepFault (element_pels reference)
    (coding_position reference.width changes at) b fault) stop

-- a fault of the row that the bits begin with
abbrev pub IsRowStop : Bool → ChangingElements → List Bool → RowStop → Type 0
IsRowStop choice reference b stop =
    IsStopOf choice (λ fault. read_two_dimensional (element_pels reference) b ≡ failed fault) stop
