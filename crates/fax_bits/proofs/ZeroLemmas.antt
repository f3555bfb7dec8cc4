-- Zeros that bits begin with.
use Rattle.std.proofs.Common.{◌≡◌, ℕ, zero, suc, ◌<◌, List, [], ◌∷◌, length, get_or, Bool, true, false, refl, ap, arith}
use Rattle.fax_bits.specs.Bits.{IsAllZeros}
use Rattle.fax_bits.specs.views.Source.{HasLeadingZeros}

-- the first n bits are 0
abbrev pub IsZeroBelow : List Bool → ℕ → Type 0
IsZeroBelow b n = (k : ℕ) → k < n → get_or b k false ≡ false

pub zeros_ahead : (b : List Bool) (n : ℕ) → n < length b → IsZeroBelow b n → get_or b n false ≡ true
    → HasLeadingZeros b n
zeros_ahead [] n within below one = absurd (omega arith)
zeros_ahead (x ∷ b) zero within below one = (b, ap (λ y. y ∷ b) one)
zeros_ahead (x ∷ b) (suc n) within below one =
    let more = zeros_ahead b n (omega arith) (λ k h. below (suc k) (omega arith)) one in
    let first : x ≡ false = below zero (omega arith) in
    (more.0, cc)

pub all_zeros : (b : List Bool) → IsZeroBelow b (length b) → IsAllZeros b
all_zeros [] below = (0, refl)
all_zeros (x ∷ b) below =
    let more = all_zeros b (λ k h. below (suc k) (omega arith)) in
    let first : x ≡ false = below zero (omega arith) in
    (suc more.0, cc)
