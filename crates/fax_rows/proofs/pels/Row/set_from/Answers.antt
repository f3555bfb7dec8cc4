use Rattle.std.proofs.Common.{ap, sym, ◌∙◌, arith}
use Rattle.std.proofs.lemmas.Grind.{common_steps}
use Rattle.std.specs.Prelude.{replicate}
use Rattle.fax_bits.specs.declared.Colour.TheVariants.{White}
use Rattle.fax_rows.proofs.PlacedRowLemmas.{all_white, width_is}
use Rattle.fax_rows.proofs.pels.Row.set_from.Goals as goal

pub copy_changes-requires-clause-row : goal.copy_changes-requires-clause-row
copy_changes-requires-clause-row c = grind (arith, width_is)

pub returns : goal.returns
returns c = grind (arith, common_steps, width_is)

pub returns-then-row-eq1 : goal.returns-then-row-eq1
returns-then-row-eq1 c =
    c.whiten.ensures ∙ ap (λ n. replicate n White) c.requires ∙ sym
    (all_white c.row.invariant c.row.view_is c.if-row-eq1.true)
