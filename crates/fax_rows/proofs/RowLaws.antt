-- The pels of runs.
use Rattle.std.proofs.Common.{arith, ◌≡◌, ℕ, List, [], ◌∷◌, length, refl}
use Rattle.std.proofs.lemmas.Grind.{common_steps}
use Rattle.std.specs.Prelude.{sum}
use Rattle.fax_bits.specs.declared.Colour.{Colour}
use Rattle.fax_rows.specs.Rows.{other, pels_of_runs}

pub length-pels_of_runs : (colour : Colour) (runs : List ℕ) → length (pels_of_runs colour runs) ≡ sum runs
length-pels_of_runs colour [] = refl
length-pels_of_runs colour (n ∷ runs) = grind (arith, common_steps, length-pels_of_runs (other colour) runs)
