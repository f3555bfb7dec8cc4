-- Lanes that are compared with a sign.
use Rattle.std.proofs.Common.{◌≡◌, ℕ, ◌-◌, ◌<◌, ◌^◌, suc, List, [], ◌∷◌, map, ltb, cond, refl, ap, ◌∙◌, length}
use Rattle.std.proofs.Common.{get_or, arith, w32}
use lib.Lanes.{zip2}
use borrow.Rule.Simd.Lanes.{act1, act2}
use borrow.Table.Row.{s_int}
use mir.Syntax.{cast, mask, lt, unsigned, signed}

abbrev pub toggled : ℕ → ℕ
toggled = act1 (cast unsigned signed w32) (s_int w32) (s_int w32)

abbrev pub compared : ℕ → ℕ → ℕ
compared = act2 (mask (lt signed)) (s_int w32) (s_int w32) (s_int w32)

compared_is : (a b : ℕ) → a < 2 ^ 31 → b < 2 ^ 31 → compared a b ≡ cond (ltb a b) (2 ^ 32 - 1) 0
compared_is a b small less = grind arith

-- those that have no highest bit are compared as numbers
pub all_compared : (xs ys : List ℕ) → ((i : ℕ) → i < length xs → get_or xs i 0 < 2 ^ 31)
    → ((i : ℕ) → i < length ys → get_or ys i 0 < 2 ^ 31)
    → zip2 compared (map toggled xs) (map toggled ys) ≡ zip2 (λ a b. cond (ltb a b) (2 ^ 32 - 1) 0) xs ys
all_compared [] ys small less = refl
all_compared (x ∷ xs) [] small less = refl
all_compared (x ∷ xs) (y ∷ ys) small less =
    ap (λ z. z ∷ zip2 compared (map toggled xs) (map toggled ys))
    (compared_is x y (small 0 (omega arith)) (less 0 (omega arith)))
    ∙ ap (λ zs. cond (ltb x y) (2 ^ 32 - 1) 0 ∷ zs)
    (all_compared xs ys (λ i h. small (suc i) (omega arith)) (λ i h. less (suc i) (omega arith)))
