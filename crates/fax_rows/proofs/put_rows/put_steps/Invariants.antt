use Rattle.std.proofs.Common.{◌+◌, ◌-◌}
use Rattle.fax_rows.specs.code.CodingElements.{IsEncoderState}
use Rattle.fax_rows.specs.code.ChangingElements.{element_pels}
use Rattle.fax_rows.proofs.ChoiceLemmas.{passed}
use Rattle.fax_rows.proofs.PlacedLemmas.{IsPutToPlace}
use Rattle.fax_rows.proofs.put_rows.put_steps.Given as goal

abbrev pub invariant-loop-at : goal.invariant-loop-at
invariant-loop-at l = record {
  elements : IsPutToPlace (element_pels l.rows.reference) (element_pels l.rows.row) l.initial.sink l.at.a0 l.pending
      l.sink;
  changes : IsEncoderState l.rows l.at;
}

abbrev pub decreases-loop-at : goal.decreases-loop-at
decreases-loop-at l = l.rows.row.width + 1 - passed l.at.a0
