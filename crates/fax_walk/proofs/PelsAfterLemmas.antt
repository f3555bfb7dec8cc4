-- The runs of a row.
use Rattle.std.proofs.lemmas.Grind.{common_steps}
use Rattle.std.proofs.Common.{◌≡◌, ℕ, zero, suc, ◌+◌, List, [], ◌∷◌, ◌++◌, replicate, refl, ap, ◌∙◌, arith}
use Rattle.fax_bits.specs.declared.Colour.{Colour}
use Rattle.fax_bits.specs.declared.Colour.TheVariants.{White, Black}
use Rattle.fax_rows.specs.Rows.{pels_of_runs, runs_after}

replicate_more : (n : ℕ) (colour : Colour) (pels : List Colour)
    → replicate (n + 1) colour ++ pels ≡ replicate n colour ++ colour ∷ pels
replicate_more zero colour pels = refl
replicate_more (suc n) colour pels = grind (arith, common_steps)

-- the pels of a row's runs are the row
pub pels_after : (colour : Colour) (n : ℕ) (row : List Colour)
    → pels_of_runs colour (runs_after colour n row) ≡ replicate n colour ++ row
unfolding runs_after
pels_after colour n [] = refl
pels_after White n (White ∷ row) = pels_after White (n + 1) row ∙ replicate_more n White row
pels_after Black n (Black ∷ row) = pels_after Black (n + 1) row ∙ replicate_more n Black row
pels_after White n (Black ∷ row) = ap (λ (l : List Colour). replicate n White ++ l) (pels_after Black 1 row)
pels_after Black n (White ∷ row) = ap (λ (l : List Colour). replicate n Black ++ l) (pels_after White 1 row)
