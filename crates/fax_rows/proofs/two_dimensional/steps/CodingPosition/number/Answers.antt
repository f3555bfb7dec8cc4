use Rattle.std.proofs.Common.{◌≡◌, ◌<◌, ◌^◌, ◌∙◌, pos, subst, to_z, w32, arith}
use Rattle.std.specs.Prelude.{unwrap_or}
use Rattle.std.proofs.lemmas.Int.{ints}
use Rattle.fax_rows.proofs.PlacedStepLemmas.{number_at_start, number_inside}
use Rattle.fax_rows.proofs.two_dimensional.steps.CodingPosition.number.Goals as goal

pub returns-in-None : goal.returns-in-None
returns-in-None c = number_at_start c.args.self c.in-None.is

pub returns-in-Some : goal.returns-in-Some
returns-in-Some c =
    let less = subst (λ a0. unwrap_or a0 0 < 2 ^ 16) c.in-Some.is c.requires in
    let same : to_z w32 c.in-Some.column ≡ pos c.in-Some.column = omega (arith, ints, less) in
    same ∙ number_inside c.args.self c.in-Some.column c.in-Some.is
