-- Ones that a word of 64 bits begins with.
use Rattle.std.proofs.Common.{◌≡◌, ℕ, zero, suc, ◌+◌, ◌-◌, ◌*◌, ◌/◌, ◌%◌, ◌^◌, ◌<◌, ◌≤◌, List, ◌∷◌, ◌++◌, take}
use Rattle.std.proofs.Common.{replicate}
use Rattle.std.proofs.Common.{Bool, true, nat_eq, refl, ap, sym, ◌∙◌, subst, arith, inl, inr}
use Rattle.std.proofs.Math.Nat.{pow-succ', mul-le-mul_right}
use Rattle.std.proofs.Math.Pow.{pow-lt}
use lib.Count.{count_leading_zeros}
use Rattle.std.proofs.lemmas.Bool.Decides.{leb_tells}
use Rattle.std.proofs.lemmas.Nat.{leading_length, shr_high, shr_split, shr_below, pow-add, pow_pos}
use Rattle.fax_bits.specs.Bits.{code_bits}
use Rattle.fax_bits.specs.code.Window.{first_bits}
use Rattle.fax_bits.proofs.WindowLemmas.{next_bits}

doubled : (high p q : ℕ) → q ≡ 2 * p → 0 < p → high * q + (q - 1) ≡ (2 * high + 1) * p + (p - 1)
doubled high p q is some = ap (λ q. high * q + (q - 1)) is ∙ omega arith

-- n ones, which stand after other bits
ones_after : (n high : ℕ) → code_bits n (high * 2 ^ n + (2 ^ n - 1)) ≡ replicate n true
unfolding code_bits
ones_after zero high = refl
ones_after (suc n) high =
    let is : high * 2 ^ suc n + (2 ^ suc n - 1) ≡ (2 * high + 1) * 2 ^ n + (2 ^ n - 1) =
    doubled high (2 ^ n) (2 ^ suc n) (pow-succ' 2 n) (pow_pos n) in
    let odd : (2 * high + 1) % 2 ≡ 1 = omega arith in
    let low : 2 ^ n - 1 < 2 ^ n = omega (arith, pow_pos n) in
    ap (code_bits (suc n)) is ∙ ap (λ d. nat_eq d 1 ∷ code_bits n ((2 * high + 1) * 2 ^ n + (2 ^ n - 1)))
    (ap (λ d. d % 2) (shr_high (2 * high + 1) n (2 ^ n - 1) low) ∙ odd)
    ∙ ap (λ b. true ∷ b) (ones_after n (2 * high + 1))

-- what n bits are that leave less than 2 ^ m up to the highest word
high_ones : (word remaining n m : ℕ) → n + m ≡ 64 → remaining < 2 ^ m → word + remaining + 1 ≡ 2 ^ 64 → word / 2 ^ m
    ≡ 2 ^ n - 1
high_ones word remaining n m parts few sum =
    let power : 2 ^ 64 ≡ 2 ^ n * 2 ^ m = ap (λ k. 2 ^ k) (sym parts) ∙ pow-add 2 n m in
    let split : 2 ^ n * 2 ^ m ≡ (2 ^ n - 1) * 2 ^ m + 2 ^ m =
    ap (λ p. p * 2 ^ m) (one_more (2 ^ n) (pow_pos n)) ∙ one_time (2 ^ n - 1) (2 ^ m) in
    let is : word ≡ (2 ^ n - 1) * 2 ^ m + (2 ^ m - 1 - remaining) = omega (arith, sum, power, split, few) in
    ap (λ w. w / 2 ^ m) is ∙ shr_high (2 ^ n - 1) m (2 ^ m - 1 - remaining) (omega (arith, few))
  where
    one_more : (p : ℕ) → 0 < p → p ≡ p - 1 + 1
    one_more p some = omega arith

    one_time : (p q : ℕ) → (p + 1) * q ≡ p * q + q
    one_time p q = omega arith

-- a word that ends with zeros is not so near to the highest one
zeros_leave : (word remaining count m : ℕ) → count ≤ 64 → word < 2 ^ 64 → word % 2 ^ (64 - count) ≡ 0
    → remaining < 2 ^ m
    → word + remaining + 1 ≡ 2 ^ 64 → 64 - count ≤ m
zeros_leave word remaining count m few fits zeros small sum =
    let number = word / 2 ^ (64 - count) in
    let parts : count + (64 - count) ≡ 64 = omega arith in
    let power : 2 ^ 64 ≡ 2 ^ count * 2 ^ (64 - count) = ap (λ k. 2 ^ k) (sym parts) ∙ pow-add 2 count (64 - count) in
    let below : suc number ≤ 2 ^ count = shr_below word count (64 - count)
    (subst (λ k. word < 2 ^ k) (sym parts) fits) in
    let within : suc number * 2 ^ (64 - count) ≤ 2 ^ count * 2 ^ (64 - count) =
    mul-le-mul_right (2 ^ (64 - count)) below in
    let whole : word ≡ number * 2 ^ (64 - count) = omega (arith, shr_split word (64 - count), zeros) in
    let apart : word + 2 ^ (64 - count) ≤ 2 ^ 64 = omega (arith, whole, within, power) in
    elim (leb_tells (64 - count) m) [ inl h ↦ h.1 | inr h ↦ absurd (omega (arith, apart, small, sum, pow-lt h.1)) ]

pub ones_before : (count word n : ℕ) (more : List Bool) → count ≤ 64 → word < 2 ^ 64
    → n ≡ count_leading_zeros 64 (2 ^ 64 - 1 - word)
    → n ≤ count → take n (first_bits count word ++ more) ≡ replicate n true
ones_before count word n more few fits is within =
    let remaining = 2 ^ 64 - 1 - word in
    let size = leading_length 64 remaining (omega arith) in
    let parts : n + size.0 ≡ 64 = omega (arith, is, size.1) in
    let place : 64 - n ≡ size.0 = omega arith in
    let zero_high : 2 ^ n - 1 ≡ 0 * 2 ^ n + (2 ^ n - 1) = omega arith in
    next_bits count word n more few within fits ∙ ap (code_bits n) (ap (λ k. word / 2 ^ k) place
    ∙ high_ones word remaining n size.0 parts size.2 (omega (arith, fits)) ∙ zero_high) ∙ ones_after n 0

pub ones_loaded : (count word n : ℕ) → count ≤ 64 → word < 2 ^ 64 → word % 2 ^ (64 - count) ≡ 0
    → n ≡ count_leading_zeros 64 (2 ^ 64 - 1 - word) → n ≤ count
ones_loaded count word n few fits zeros is =
    let remaining = 2 ^ 64 - 1 - word in
    let size = leading_length 64 remaining (omega arith) in
    omega (
      arith,
      is,
      size.1,
      zeros_leave word remaining count size.0 few fits zeros size.2 (omega (arith, fits)),
    )
