use Rattle.std.proofs.Common.{◌≡◌, ◌≢◌, ◌+◌, suc, refl, inr, sym, ap, ◌∙◌, arith}
use Rattle.fax_rows.proofs.ColourLemmas.{differs_is, other-other}
use Rattle.fax_bits.specs.contracts.Colour.{the_type}
use Rattle.fax_bits.specs.declared.Colour.TheVariants.{Black}
use Rattle.fax_rows.specs.Rows.{other}
use Rattle.fax_rows.specs.code.ChangeLists.{alternate}
use Rattle.fax_rows.proofs.TurnLemmas.{alternate-suc}
use Rattle.fax_rows.proofs.PlacedB1Lemmas.{b1_here}
use Rattle.fax_rows.proofs.change_list.ChangingElements.b1_from.Goals as goal
use denote.Enum.Bare.{same_false}

pub returns-else-eq : goal.returns-else-eq
returns-else-eq c =
    let differs : c.colour_after.result ≢ c.args.colour = same_false the_type _ _ (sym c.if-eq.ensures) in
    let next : c.change_after-next.result + 1 ≡ suc c.change_after-next.result = omega arith in
    b1_here c.args.self c.args.a0 c.change_after-next.result (c.change_after-next.result + 1) c.args.colour
    c.change_after-next.ensures
    (inr refl)
    (ap (alternate Black) next ∙ alternate-suc Black c.change_after-next.result
    ∙ ap other (sym c.colour_after.ensures ∙ differs_is c.args.colour c.colour_after.result differs)
    ∙ other-other c.args.colour)
