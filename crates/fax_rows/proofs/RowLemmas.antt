-- A row in one-dimensional coding, run by run.
use Rattle.std.proofs.lemmas.Grind.{common_steps}
use Rattle.std.proofs.Common.{◌≡◌, ℕ, List, [], ◌∷◌, ◌++◌, replicate, refl}
use Rattle.std.proofs.Common.{arith}
use Rattle.std.proofs.lemmas.List.{append-nil}
use Rattle.fax_bits.specs.declared.Colour.{Colour}
use Rattle.fax_rows.specs.Rows.{other, pels_of_runs}
use Rattle.fax_rows.proofs.CodedRunLemmas.{colour_after_runs}

pub colour_after_runs-push : (c : Colour) (runs : List ℕ) (n : ℕ)
    → colour_after_runs c (runs ++ n ∷ []) ≡ other (colour_after_runs c runs)
colour_after_runs-push c [] n = refl
colour_after_runs-push c (m ∷ runs) n = colour_after_runs-push (other c) runs n

pub pels_of_runs-push : (c : Colour) (runs : List ℕ) (n : ℕ)
    → pels_of_runs c (runs ++ n ∷ []) ≡ pels_of_runs c runs ++ replicate n (colour_after_runs c runs)
pels_of_runs-push c [] n = append-nil (replicate n c)
pels_of_runs-push c (m ∷ runs) n = grind (arith, common_steps, pels_of_runs-push (other c) runs n)
