-- The number that bits spell, and the bits of that number.
use Rattle.std.proofs.lemmas.Grind.{common_steps}
use Rattle.std.proofs.Common.{◌≡◌, ℕ, ◌+◌, ◌*◌, ◌^◌, ◌<◌, List, [], ◌∷◌, length, Bool, true, false, if◌then◌else◌, refl}
use Rattle.std.proofs.Common.{ap, sym, ◌∙◌, subst, arith}
use Rattle.std.specs.Prelude.{fold}
use Rattle.std.proofs.Math.Nat.{pow-succ'}
use Rattle.std.proofs.lemmas.Nat.Bits.{bit_at_cat_high}
use Rattle.fax_bits.specs.declared.FillOrder.TheVariants.{MsbFirst}
use Rattle.fax_bits.specs.Bits.{code_bits, byte_bits, bits_number}
use Rattle.fax_bits.proofs.CodeBitsLemmas.{code_bits-low, length-code_bits}
use Rattle.fax_bits.proofs.FindLemmas.{same_number}
use Rattle.fax_bits.proofs.PeekLemmas.{bits_number-lt}

abbrev digit_of : Bool → ℕ
digit_of bit = if bit then 1 else 0

-- bits after a number
number-after : (b : List Bool) (a : ℕ) → fold (λ number bit. 2 * number + digit_of bit) a b
    ≡ a * 2 ^ length b + bits_number b
number-after [] a = omega arith
number-after (x ∷ b) a =
    let here = number-after b (2 * a + digit_of x) in
    let first = number-after b (2 * 0 + digit_of x) in
    rw (pow-succ' 2 (length b)) (omega (arith, here, first))

number-cons : (x : Bool) (b : List Bool) → bits_number (x ∷ b) ≡ digit_of x * 2 ^ length b + bits_number b
number-cons true b = number-after b 1
number-cons false b = number-after b 0

-- the bits of the number that bits spell
pub code_bits-number : (b : List Bool) → code_bits (length b) (bits_number b) ≡ b
unfolding code_bits
code_bits-number [] = refl
code_bits-number (x ∷ b) = grind (
  arith,
  common_steps,
  number-cons,
  bit_at_cat_high,
  bits_number-lt,
  code_bits-low,
  code_bits-number b,
)

-- the number that the bits of a number spell
pub number-code_bits : (len number : ℕ) → number < 2 ^ len → bits_number (code_bits len number) ≡ number
number-code_bits len number fits =
    let long : length (code_bits len number) ≡ len = length-code_bits len number in
    same_number len (bits_number (code_bits len number)) number
    (subst (λ n. bits_number (code_bits len number) < 2 ^ n) long (bits_number-lt (code_bits len number))) fits
    (ap (λ n. code_bits n (bits_number (code_bits len number))) (sym long) ∙ code_bits-number (code_bits len number))

pub eight-fit : (b : List Bool) → length b ≡ 8 → bits_number b < 256
eight-fit b eight = subst (λ n. bits_number b < 2 ^ n) eight (bits_number-lt b)

pub byte_bits-number : (b : List Bool) → length b ≡ 8 → byte_bits MsbFirst (bits_number b) ≡ b
unfolding byte_bits
byte_bits-number b eight = ap (λ n. code_bits n (bits_number b)) (sym eight) ∙ code_bits-number b

pub number-byte_bits : (byte : ℕ) → byte < 256 → bits_number (byte_bits MsbFirst byte) ≡ byte
unfolding byte_bits
number-byte_bits byte fits = number-code_bits 8 byte fits
