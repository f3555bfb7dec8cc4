use Rattle.std.proofs.Common.{refl, ap, ◌∙◌, arith}
use Rattle.fax_rows.specs.ReadRows.{read_two_dimensional}
use Rattle.fax_rows.proofs.PlacedRowLemmas.{width_is}
use Rattle.fax_rows.proofs.WhiteRowLemmas.{chosen_2d}
use Rattle.fax_rows.proofs.white.skip_white_2d.Goals as goal

pub returns-clause-chosen : goal.returns-clause-chosen
returns-clause-chosen c is = grind (arith, width_is, chosen_2d)

pub returns-clause-row : goal.returns-clause-row
returns-clause-row c is =
    let row = c.args.reference.now in
    let rest = c.skip_ones.new.self.remaining in
    let same = width_is c.reference.invariant c.reference.view_is in
    let read = c.two_dimensional_rows_are_read_back.ensures row row rest (record {
      some = omega (arith, same, c.reference.invariant.some);
      short = omega (arith, same, c.reference.invariant.short);
    }) refl in
    ap (read_two_dimensional row) (returns-clause-chosen c is) ∙ read
