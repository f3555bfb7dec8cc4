use Rattle.std.proofs.Common.{length, ap, ◌∙◌, arith}
use Rattle.fax_rows.specs.ReadRows.{read_one_dimensional}
use Rattle.fax_rows.proofs.PlacedRowLemmas.{width_is}
use Rattle.fax_rows.proofs.WhiteRowLemmas.{chosen_1d}
use Rattle.fax_rows.proofs.white.skip_white_1d.Goals as goal

pub returns-clause-chosen : goal.returns-clause-chosen
returns-clause-chosen c is = grind (arith, chosen_1d, width_is)

pub returns-clause-row : goal.returns-clause-row
returns-clause-row c is =
    let row = c.args.white.now in
    let rest = c.skip_run_if_next.new.self.remaining in
    let same = width_is c.white.invariant c.white.view_is in
    let read = c.one_dimensional_rows_are_read_back.ensures row rest (record {
      some = omega (arith, same, c.white.invariant.some);
      short = omega (arith, same, c.white.invariant.short);
    }) in
    ap (read_one_dimensional (length row)) (returns-clause-chosen c is) ∙ read
