-- What stands ahead of a0 as a row is written.
use Rattle.std.proofs.lemmas.Grind.{common_steps}
use Rattle.std.proofs.Common.{◌≡◌, ◌≤◌, length, sym, ◌∙◌, arith}
use Rattle.std.specs.Prelude.{unwrap_or}
use Rattle.fax_rows.specs.declared.put_rows.CodingElements.{CodingElements}
use Rattle.fax_rows.specs.declared.change_list.RowPair.{RowPair}
use Rattle.fax_rows.specs.code.CodingElements.{AreCodingElements}
use Rattle.fax_rows.specs.code.ChangingElements.{element_pels}
use Rattle.fax_rows.proofs.ChangeLemmas.{next_change_is, next_of_within}
use Rattle.fax_rows.proofs.PlacedB1Lemmas.{length-element_pels}

pub written_width : (rows : RowPair) → length (element_pels rows.row) ≡ rows.row.width
written_width rows = length-element_pels rows.row

reference_width : (rows : RowPair) → length (element_pels rows.reference) ≡ rows.reference.width
reference_width rows = length-element_pels rows.reference

pub same_widths : (rows : RowPair) → length (element_pels rows.reference) ≡ length (element_pels rows.row)
same_widths rows = reference_width rows ∙ rows.same_width ∙ sym (written_width rows)

-- the places ascend, within the row
pub record AreBounded (rows : RowPair) (ahead : CodingElements) : Type 0 where
  pub a0 : unwrap_or ahead.a0 0 ≤ ahead.a1
  pub a1_a2 : ahead.a1 ≤ ahead.a2
  pub a2 : ahead.a2 ≤ rows.row.width
  pub b1 : ahead.b1 ≤ rows.row.width

pub known_bounds : {rows : RowPair} {ahead : CodingElements} → AreCodingElements rows ahead → AreBounded rows ahead
known_bounds is = grind (arith, common_steps, written_width, same_widths, next_change_is, next_of_within)
