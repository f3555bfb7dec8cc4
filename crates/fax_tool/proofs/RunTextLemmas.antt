-- Runs that are written, and those that are expected.
use Rattle.std.proofs.Common.{◌≡◌, ℕ, List, [], ◌∷◌, ◌++◌, length, get_or, append_assoc, append-nil, arith}
use Rattle.std.specs.Prelude.{flat_map}
use Rattle.fax_tool.specs.Text.{and_number}

-- one run more
pub next_run : (text more runs remaining : List ℕ) (run : ℕ) → runs ≡ run ∷ remaining → more ≡ text ++ and_number run
    → more ++ flat_map and_number remaining ≡ text ++ flat_map and_number runs
next_run text more runs remaining run first is = grind (arith, append_assoc)

-- two texts, one after the other
pub two_written : (s₀ s₁ s₂ a b : List ℕ) → s₁ ≡ s₀ ++ a → s₂ ≡ s₁ ++ b → s₂ ≡ s₀ ++ (a ++ b)
two_written s₀ s₁ s₂ a b one two = grind (arith, append_assoc)

-- eight numbers, two by two
pub eight_written : (s₀ s₁ s₂ s₃ s₄ xs : List ℕ) → length xs ≡ 8
    → s₁ ≡ s₀ ++ (and_number (get_or xs 0 0) ++ and_number (get_or xs 1 0))
    → s₂ ≡ s₁ ++ (and_number (get_or xs 2 0) ++ and_number (get_or xs 3 0))
    → s₃ ≡ s₂ ++ (and_number (get_or xs 4 0) ++ and_number (get_or xs 5 0))
    → s₄ ≡ s₃ ++ (and_number (get_or xs 6 0) ++ and_number (get_or xs 7 0)) → s₄ ≡ s₀ ++ flat_map and_number xs
eight_written s₀ s₁ s₂ s₃ s₄ (a ∷ b ∷ c ∷ d ∷ e ∷ f ∷ g ∷ h ∷ []) long one two three four =
    grind (arith, append_assoc, append-nil)
eight_written s₀ s₁ s₂ s₃ s₄ xs long one two three four = absurd (omega (arith, long))
