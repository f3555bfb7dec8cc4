-- The ones of a number.
use Rattle.std.specs.Prelude.{ℕ, zero, suc, ◌+◌, ◌-◌, ◌==◌, if◌then◌else◌, List, [], ◌∷◌, ◌++◌}
use Rattle.std.specs.Int.{bit_at}

-- a place for each one among its k bits from bit `top` down, the first of which is at place `from`
abbrev pub ones_among : ℕ → ℕ → ℕ → ℕ → List ℕ
ones_among from top number zero = []
ones_among from top number (suc k) =
    ones_among from top number k ++ (if bit_at number (top - k) == 1 then (from + k) ∷ [] else [])
