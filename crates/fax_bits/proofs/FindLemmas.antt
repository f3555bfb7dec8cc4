-- A code that begins the bits of a number.
use Rattle.std.proofs.Common.{◌≡◌, ℕ, ◌+◌, ◌-◌, ◌/◌, ◌%◌, ◌^◌, ◌<◌, ◌≤◌, List, ◌++◌, length, take, get_or, Bool, false}
use Rattle.std.proofs.Common.{nat_eq}
use Rattle.std.proofs.Common.{ap, sym, ◌∙◌, subst, arith, length-append}
use Rattle.std.proofs.Math.Seq.{take-append_seam}
use Rattle.std.proofs.lemmas.Nat.{pow_pos, mod_below, shr_below, shr_split}
use Rattle.std.proofs.lemmas.Nat.Bits.{bit_at-lt, same_from_bits_below}
use Rattle.std.specs.Int.{bit_at}
use Rattle.fax_bits.specs.Bits.{code_bits, StartsWith}
use Rattle.fax_bits.proofs.CodeBitsLemmas.{code_bits-add, length-code_bits, get_or-code_bits}

same_digit : (n m : ℕ) → n < 2 → m < 2 → nat_eq n 1 ≡ nat_eq m 1 → n ≡ m
same_digit n m h k e = grind arith

-- numbers with the same bits are the same
pub same_number : (len n m : ℕ) → n < 2 ^ len → m < 2 ^ len → code_bits len n ≡ code_bits len m → n ≡ m
same_number len n m n_fits m_fits same =
    same_from_bits_below len n m n_fits m_fits
    (λ i within.
    let place : len - 1 - (len - 1 - i) ≡ i = omega arith in
    let inside : len - 1 - i < len = omega arith in
    let digits : nat_eq (bit_at n i) 1 ≡ nat_eq (bit_at m i) 1 =
    ap (λ k. nat_eq (bit_at n k) 1) (sym place) ∙ sym (get_or-code_bits len n (len - 1 - i) inside)
    ∙ ap (λ b. get_or b (len - 1 - i) false) same ∙ get_or-code_bits len m (len - 1 - i) inside
    ∙ ap (λ k. nat_eq (bit_at m k) 1) place in
    same_digit (bit_at n i) (bit_at m i) (bit_at-lt n i) (bit_at-lt m i) digits)

-- the first len bits of a number of n bits, and the others
split_at : (n len window : ℕ) → len ≤ n
    → code_bits n window ≡ code_bits len (window / 2 ^ (n - len)) ++ code_bits (n - len) (window % 2 ^ (n - len))
split_at n len window within =
    let e : len + (n - len) ≡ n = omega arith in
    sym (ap (λ k. code_bits k window) e) ∙ ap (code_bits (len + (n - len))) (sym (shr_split window (n - len)))
    ∙ code_bits-add len (n - len) (window / 2 ^ (n - len)) (window % 2 ^ (n - len))
    (mod_below window (2 ^ (n - len)) (pow_pos (n - len)))

pub code_ahead : (n window len code : ℕ) → len ≤ n → window / 2 ^ (n - len) ≡ code
    → StartsWith (code_bits n window) (code_bits len code)
code_ahead n window len code within is = (
  code_bits (n - len) (window % 2 ^ (n - len)),
  split_at n len window within ∙ ap (λ k. code_bits len k ++ code_bits (n - len) (window % 2 ^ (n - len))) is,
)

-- a code that begins the bits is no longer than they are
pub ahead_is_short : (n window len code : ℕ) → StartsWith (code_bits n window) (code_bits len code) → len ≤ n
ahead_is_short n window len code ahead =
    omega (
      arith,
      length-append (code_bits len code) ahead.0,
      ap length ahead.1,
      length-code_bits len code,
      length-code_bits n window,
    )

-- and is the number that the first bits spell
pub ahead_is_first : (n window len code : ℕ) → len ≤ n → window < 2 ^ n → code < 2 ^ len
    → StartsWith (code_bits n window) (code_bits len code)
    → window / 2 ^ (n - len) ≡ code
ahead_is_first n window len code within fits code_fits ahead =
    let e : len + (n - len) ≡ n = omega arith in
    let high : window / 2 ^ (n - len) < 2 ^ len = shr_below window len (n - len)
    (subst (λ k. window < 2 ^ k) (sym e) fits) in
    let first : (number : ℕ) (rest : List Bool) → take len (code_bits len number ++ rest) ≡ code_bits len number =
    λ number rest. ap (λ k. take k (code_bits len number ++ rest)) (sym (length-code_bits len number))
    ∙ take-append_seam (code_bits len number) rest in
    same_number len (window / 2 ^ (n - len)) code high code_fits
    (sym (first (window / 2 ^ (n - len)) (code_bits (n - len) (window % 2 ^ (n - len))))
    ∙ ap (take len) (sym (split_at n len window within) ∙ ahead.1) ∙ first code ahead.0)
