-- How long numbers are, and the line that they stand in.
use Rattle.std.proofs.Common.{◌≡◌, refl, ℕ, ◌+◌, ◌^◌, ◌<◌, ◌≤◌, List, [], ◌∷◌, ◌++◌, length, take, ap, ◌∙◌, arith}
use Rattle.std.proofs.Common.{append_assoc, length-set}
use Rattle.std.specs.Prelude.{decimal}
use Rattle.std.proofs.Math.ListN.{set}
use Rattle.std.proofs.lemmas.Grind.{take-set_at}
use Rattle.std.proofs.lemmas.Fmt.{length-decimal-le}

-- a run and any other number have so many digits at most
pub length_short : (n : ℕ) → n < 2 ^ 16 → length (decimal n) ≤ 5
length_short n short = length-decimal-le 5 n (omega arith) (omega arith) (omega arith)

pub length_long : (n : ℕ) → n < 2 ^ 32 → length (decimal n) ≤ 10
length_long n short = length-decimal-le 10 n (omega arith) (omega arith) (omega arith)

-- a byte that is written after those before it
pub after : (bytes before : List ℕ) (at end b : ℕ) → end ≡ at + 1 → at < length bytes → take at bytes ≡ before
    → take end (set bytes at b) ≡ before ++ b ∷ []
after bytes before at end b next room is = take-set_at bytes at end b next room ∙ ap (λ xs. xs ++ b ∷ []) is

module _ (bytes : List ℕ) (at : ℕ) where
  pub one : (a : ℕ) → at + 1 ≤ length bytes → take (at + 1) (set bytes at a) ≡ take at bytes ++ a ∷ []
  one a room = after bytes (take at bytes) at (at + 1) a refl (omega arith) refl

  pub three : (a b c : ℕ) → at + 3 ≤ length bytes
      → take (at + 3) (set (set (set bytes at a) (at + 1) b) (at + 2) c) ≡ take at bytes ++ a ∷ b ∷ c ∷ []
  three a b c room = grind (arith, after, length-set, append_assoc)

-- a row's line, part by part
pub line_is : (text word page row runs end s₀ s₁ s₂ s₃ s₄ : List ℕ) → s₀ ≡ text ++ word → s₁ ≡ s₀ ++ page
    → s₂ ≡ s₁ ++ row
    → s₃ ≡ s₂ ++ runs → s₄ ≡ s₃ ++ end → s₄ ≡ text ++ (word ++ page ++ row ++ runs ++ end)
line_is text word page row runs end s₀ s₁ s₂ s₃ s₄ first second third fourth fifth = grind (arith, append_assoc)
