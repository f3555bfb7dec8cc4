use Rattle.std.proofs.Common.{◌∙◌, refl, subst, sym, arith}
use Rattle.fax_rows.specs.code.ChangingElements.{IsB1At}
use Rattle.fax_rows.proofs.PlacedRowLemmas.{at_from, next_here, end_within}
use Rattle.fax_rows.proofs.PlacedB1Lemmas.{b1_is, b2_is, after_b1}
use Rattle.fax_rows.proofs.WrittenStepLemmas.{colour_here}
use Rattle.fax_rows.proofs.put_rows.CodingElements.of.Goals as goal

pub bounds-rows-at : goal.bounds-rows-at
bounds-rows-at c =
    let row = c.args.rows.row in
    let at = at_from row.elements c.args.at.a0 c.args.at.row (c.requires.changes.row c.requires.unfinished) in
    omega (arith, at.1, row.elements.room, end_within row.elements)

pub bounds-rows-at-2 : goal.bounds-rows-at-2
bounds-rows-at-2 c =
    let row = c.args.rows.row in
    let at = at_from row.elements c.args.at.a0 c.args.at.row (c.requires.changes.row c.requires.unfinished) in
    omega (arith, at.1, row.elements.room, end_within row.elements)

pub bounds-rows-at-3 : goal.bounds-rows-at-3
bounds-rows-at-3 c =
    let at = c.requires.changes.reference c.requires.unfinished in
    let row = c.args.rows.reference in
    omega (arith, at.within, row.elements.room, end_within row.elements)

pub bounds-rows-at-4 : goal.bounds-rows-at-4
bounds-rows-at-4 c =
    let at = c.requires.changes.reference c.requires.unfinished in
    let row = c.args.rows.reference in
    omega (arith, at.within, row.elements.room, end_within row.elements)

pub returns-clause-changes : goal.returns-clause-changes
returns-clause-changes c =
    let from = c.requires.changes.row c.requires.unfinished in
    let row = c.args.rows.row in
    let reference = c.args.rows.reference in
    let at = at_from row.elements c.args.at.a0 c.args.at.row from in
    let b1 = subst (λ colour. IsB1At reference c.args.at.a0 colour c.args.at.reference) (sym c.colour_after.ensures)
    (c.requires.changes.reference c.requires.unfinished) in
    record {
      unfinished = c.requires.unfinished;
      a1 = (next_here row.elements c.args.at.a0 c.args.at.row from).place;
      a2 = after_b1 row c.args.at.row at.0 (omega (arith, at.1));
      b1 = b1_is reference b1;
      b2 = b2_is reference b1;
      colour = c.colour_after.ensures ∙ colour_here row c.args.at.a0 c.args.at.row from c.requires.unfinished;
      after = c.colour_after.ensures;
      row = from;
      reference = b1;
      a1_at = refl;
      a2_at = refl;
      b1_at = refl;
      b2_at = refl;
    }
