use Rattle.std.proofs.Common.{ap, ◌∙◌, arith}
use Rattle.fax_rows.specs.Rows.{b1}
use Rattle.fax_rows.proofs.PlacedRowLemmas.{end_within}
use Rattle.fax_rows.proofs.PlacedB1Lemmas.{placed_width, b1_is, b1_at_most, b1_right}
use Rattle.fax_rows.proofs.pels.Row.next_of.Goals as goal

pub bounds-row-b1_from : goal.bounds-row-b1_from
bounds-row-b1_from c =
    let row = c.elements-row.result in
    omega (arith, c.b1_from.ensures.within, row.elements.room, end_within row.elements)

pub returns : goal.returns
returns c =
    let row = c.elements-row.result in
    let at = c.b1_from.ensures in
    let width = placed_width row c.args.self.now c.elements-row.ensures in
    record {
      place = b1_is row at
          ∙ ap (λ pels. b1 pels c.args.from c.args.colour) c.elements-row.ensures;
      within = omega (arith, width, b1_at_most row c.b1_from.result at.some at.within);
      right = λ h. b1_right row at (omega (arith, width));
    }
