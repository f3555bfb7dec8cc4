-- The number that bits spell, and zeros past their end.
use Rattle.std.proofs.Common.{ℕ, ◌+◌, ◌*◌, ◌^◌, ◌<◌, ◌≤◌, List, [], ◌∷◌, ◌++◌, length, replicate, Bool, true, false}
use Rattle.std.proofs.Common.{if◌then◌else◌, arith}
use Rattle.std.specs.Prelude.{fold}
use Rattle.std.proofs.Math.Nat.{pow-succ'}
use Rattle.fax_bits.specs.Bits.{bits_number}

-- the bits with n zeros after them
abbrev pub padded : List Bool → ℕ → List Bool
padded b n = b ++ replicate n false

fold-lt : (b : List Bool) (a : ℕ) → fold (λ number bit. 2 * number + (if bit then 1 else 0)) a b + 1 ≤ (a + 1) * 2 ^
    length b
fold-lt [] a = omega arith
fold-lt (true ∷ b) a =
    rw (pow-succ' 2 (length b)) (omega (arith, fold-lt b (2 * a + 1)))
fold-lt (false ∷ b) a = rw (pow-succ' 2 (length b)) (omega (arith, fold-lt b (2 * a + 0)))

pub bits_number-lt : (b : List Bool) → bits_number b < 2 ^ length b
bits_number-lt b = omega (arith, fold-lt b 0)
