-- A row in one-dimensional coding whose next run has a fault, and why a row in two-dimensional
-- coding is not read on.
use Rattle.std.proofs.Common.{ℕ, ◌<◌, List, Bool, take, arith}
use Rattle.std.specs.Prelude.{Result, IfErr}
use Rattle.fax_rows.specs.declared.RowFault.{RowFault}
use Rattle.fax_rows.specs.declared.two_dimensional.horizontal_runs.RowStop.{RowStop}
use Rattle.fax_rows.specs.code.CodingState.{IsReadSoFar}
use Rattle.fax_rows.specs.code.ChangingElements.{element_pels}
use Rattle.fax_rows.specs.code.CodingPosition.{position_pel}
use Rattle.fax_rows.specs.code.RowStop.{IsRowStop, IsStepStop, IsStopOf}
use Rattle.fax_rows.specs.code.ChangeLists.{pels_of_changes}
use Rattle.fax_rows.specs.declared.change_list.ChangingElements.{ChangingElements}
use Rattle.fax_rows.specs.declared.two_dimensional.steps.CodingState.{CodingState}
use Rattle.fax_rows.proofs.PlacedB1Lemmas.{length-element_pels}
use Rattle.fax_rows.proofs.PlacedStepLemmas.{fault_here}

-- why a row is not read on, by what else holds of a fault
pub stop_as : (choice : Bool) {faults others : RowFault → Type 0} (stop : RowStop) → IsStopOf choice faults stop
    → ((fault : RowFault) → faults fault → others fault) → IsStopOf choice others stop
stop_as choice stop is all = grind arith

pub stops_as : {A : Type 0} (choice : Bool) {faults others : RowFault → Type 0} (found : Result A RowStop)
    → IfErr found (λ stop. IsStopOf choice faults stop) → ((fault : RowFault) → faults fault → others fault)
    → IfErr found (λ stop. IsStopOf choice others stop)
stops_as choice found is all = grind arith

-- a step that is not read on is no part of the row
pub row_stop : {choice : Bool} {reference : ChangingElements} {b : List Bool} {changes : List ℕ} {at : CodingState}
    {remaining : List Bool} → IsReadSoFar choice reference changes at b remaining
    → position_pel at.position < reference.width
    → (stop : RowStop) → IsStepStop choice reference changes at remaining stop → IsRowStop choice reference b stop
row_stop {reference = reference} {b = b} {changes = changes} {at = at} {remaining = remaining} read unfinished stop is =
    stop_as _ stop is (fault_here (element_pels reference) b at.position (pels_of_changes reference.width (take at.end
    changes))
    remaining read.steps (omega (arith, unfinished, length-element_pels reference)))
