use Rattle.std.proofs.Common.{ap, ◌∙◌, arith}
use Rattle.fax_rows.specs.Rows.{b1, b2}
use Rattle.fax_rows.proofs.PlacedRowLemmas.{end_within}
use Rattle.fax_rows.proofs.PlacedB1Lemmas.{placed_width, b1_is, b2_is, b2_at_most, b2_right}
use Rattle.fax_rows.proofs.changing_elements.b1_b2.Goals as goal

pub bounds-row-b1 : goal.bounds-row-b1
bounds-row-b1 c =
    let row = c.elements-row.result in
    omega (arith, c.b1_from-b1.ensures.within, row.elements.room, end_within row.elements)

pub bounds-row-b1-2 : goal.bounds-row-b1-2
bounds-row-b1-2 c =
    let row = c.elements-row.result in
    omega (arith, c.b1_from-b1.ensures.within, row.elements.room, end_within row.elements)

pub returns : goal.returns
returns c =
    let row = c.elements-row.result in
    let at = c.b1_from-b1.ensures in
    let width = placed_width row c.args.reference.now c.elements-row.ensures in
    record {
      first = b1_is row at ∙ ap (λ pels. b1 pels c.args.a0 c.args.colour) c.elements-row.ensures;
      second = b2_is row at ∙ ap (λ pels. b2 pels c.args.a0 c.args.colour) c.elements-row.ensures;
      within = omega (arith, width, b2_at_most row c.b1_from-b1.result at.some at.within);
      right = λ h. b2_right row at (omega (arith, width));
    }
