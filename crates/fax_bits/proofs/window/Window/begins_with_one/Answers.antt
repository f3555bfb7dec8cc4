use Rattle.std.proofs.Common.{◌≡◌, List, [], ◌∷◌, ◌++◌, Bool, true, false, get_or, ap, arith}
use Rattle.fax_bits.proofs.WindowLemmas.{first_is_one}
use Rattle.fax_bits.proofs.window.Window.begins_with_one.Goals as goal

first_of : (b more : List Bool) → get_or b 0 false ≡ true → (rest : List Bool) × (b ++ more ≡ true ∷ rest)
first_of [] more is = cc
first_of (bit ∷ b) more is = (b ++ more, ap (λ first. first ∷ b ++ more) is)

pub returns-clause-ahead : goal.returns-clause-ahead
returns-clause-ahead c = grind (arith, first_of, first_is_one)
