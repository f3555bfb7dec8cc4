-- A row unpacked by words of 64 pels.
use Rattle.std.proofs.lemmas.Grind.{common_steps}
use Rattle.std.proofs.Common.{◌≡◌, ℕ, zero, suc, ◌+◌, ◌-◌, ◌*◌, ◌/◌, ◌%◌, ◌^◌, ◌<◌, ◌≤◌, List, length, get_or, Bool}
use Rattle.std.proofs.Common.{true}
use Rattle.std.proofs.Common.{false, not, nat_eq, ap, sym, ◌∙◌, arith, inl, inr, take, drop, length-drop, get_or-drop}
use Rattle.std.specs.Int.{bit_at, from_be_bytes, to_be_bytes, w64}
use Rattle.std.specs.Int.RustNames.{bit_xor}
use Rattle.std.proofs.lemmas.Bool.{cases_lt}
use Rattle.std.proofs.lemmas.List.{get_or-take, length-take-le}
use Rattle.std.proofs.lemmas.Nat.{be_bytes_8, shr-shr}
use Rattle.std.proofs.lemmas.Nat.Bits.{bit_at-lt, bit_at-zero, bit_at_xor, bit_at_above, bit_at_cat_low}
use Rattle.std.proofs.lemmas.Nat.Bits.{bit_at_cat_high, bit_at_lowest}
use Rattle.fax_bits.specs.declared.FillOrder.TheVariants.{MsbFirst}
use Rattle.fax_bits.specs.Bits.{bits}
use Rattle.fax_bits.specs.laws.Codes.{AreBitsByIndex}
use Rattle.fax_rows.specs.code.PackedWord.{word_bit}
use Rattle.fax_rows.specs.code.ChangeLists.{IsAscending}
use Rattle.fax_rows.proofs.PackedWordLemmas.{be_byte, byte_bit}
use Rattle.fax_rows.proofs.PlacedReadLemmas.{places_within}

-- the bits of a word are those of its bytes
pub bits_of_word : (law : AreBitsByIndex) (bytes : List ℕ) (at word : ℕ) → at + 8 ≤ length bytes
    → ((i : ℕ) → get_or bytes i 0 < 256)
    → word ≡ from_be_bytes w64 (take 8 (drop at bytes)) → (i : ℕ) → i < 64
    → word_bit word i ≡ get_or (bits MsbFirst bytes) (8 * at + i) false
bits_of_word law bytes at word room fit is i inside =
    let q = i / 8 in
    let r = i % 8 in
    let whole : 8 * q + r ≡ i = omega arith in
    let byte : (8 * at + i) / 8 ≡ at + q = omega arith in
    let column : (8 * at + i) % 8 ≡ r = omega arith in
    let few : q < 8 = omega arith in
    ap (λ k. nat_eq (bit_at word (63 - k)) 1) (sym whole)
    ∙ ap (λ b. nat_eq b 1)
    (sym (byte_bit word q r few (omega arith)) ∙ ap (λ b. bit_at b (7 - r))
    (sym (be_byte word q few) ∙ byte_there q few))
    ∙ sym (law.of_bytes MsbFirst bytes (8 * at + i) (omega arith)
    ∙ ap (λ k. nat_eq (bit_at (get_or bytes k 0) (7 - (8 * at + i) % 8)) 1) byte
    ∙ ap (λ k. nat_eq (bit_at (get_or bytes (at + q) 0) (7 - k)) 1) column)
  where
    eight : List ℕ
    eight = take 8 (drop at bytes)

    long : length eight ≡ 8
    long = length-take-le 8 (drop at bytes) (omega (arith, length-drop at bytes))

    there : (k : ℕ) → k < 8 → get_or eight k 0 ≡ get_or bytes (at + k) 0
    there k h = get_or-take 8 (drop at bytes) k 0 h ∙ get_or-drop at bytes k 0

    -- a byte past the last one is 0
    fits : (k : ℕ) → get_or eight k 0 < 256
    fits k = grind (arith, there)

    byte_there : (k : ℕ) → k < 8 → get_or (to_be_bytes w64 word) k 0 ≡ get_or bytes (at + k) 0
    byte_there k h = ap (λ b. get_or b k 0) (be_bytes_8 eight word long fits is) ∙ there k h

-- one bit or the other
abbrev pub turns_bit : Bool → Bool → Bool
turns_bit true b = not b
turns_bit false b = b

-- the bit before one of a word, after another word
abbrev pub bit_before : ℕ → ℕ → ℕ → Bool
bit_before before word zero = word_bit before 63
bit_before before word (suc i) = word_bit word i

-- the bits of a word that differ from the ones before them
abbrev pub changes_of : ℕ → ℕ → ℕ
changes_of before word = bit_xor (bit_xor word (word / 2 ^ 1)) (before * 2 ^ 63 % 2 ^ 64)

two_digits : (a b : ℕ) → a < 2 → b < 2 → nat_eq ((a + b) % 2) 1 ≡ turns_bit (nat_eq a 1) (nat_eq b 1)
two_digits a b ha hb = grind arith

three_bits : (before word k : ℕ)
    → bit_at (changes_of before word) k ≡ ((bit_at word k + bit_at (word / 2 ^ 1) k) % 2 + bit_at
    (before * 2 ^ 63 % 2 ^ 64) k) % 2
three_bits before word k = grind (arith, bit_at_xor)

carried : (before : ℕ) → before * 2 ^ 63 % 2 ^ 64 ≡ before % 2 * 2 ^ 63 + 0
carried before = omega arith

no_second : (a b : ℕ) → a < 2 → ((a + 0) % 2 + b) % 2 ≡ (a + b) % 2
no_second a b h = omega arith

no_third : (a b : ℕ) → ((a + b) % 2 + 0) % 2 ≡ (a + b) % 2
no_third a b = omega arith

-- a bit is 1 where it differs from the one before it
pub change_bit : (before word i : ℕ) → word < 2 ^ 64 → i < 64
    → word_bit (changes_of before word) i ≡ turns_bit (word_bit word i) (bit_before before word i)
change_bit before word zero fits inside =
    let none : bit_at (word / 2 ^ 1) 63 ≡ 0 = ap (λ n. n % 2) (shr-shr word 1 63)
    ∙ bit_at_above word 64 64 fits (omega arith) in
    let carry : bit_at (before * 2 ^ 63 % 2 ^ 64) 63 ≡ bit_at before 0 =
    ap (λ n. bit_at n 63) (carried before) ∙ bit_at_cat_high (before % 2) 63 0 63 (omega arith) (omega arith)
    ∙ bit_at_lowest (before % 2) ∙ (omega arith) ∙ sym (bit_at_lowest before) in
    ap (λ b. nat_eq b 1)
    (three_bits before word 63 ∙ ap (λ b. ((bit_at word 63 + b) % 2 + bit_at (before * 2 ^ 63 % 2 ^ 64) 63) % 2) none
    ∙ ap (λ b. ((bit_at word 63 + 0) % 2 + b) % 2) carry ∙ no_second (bit_at word 63) (bit_at before 0)
    (bit_at-lt word 63))
    ∙ two_digits (bit_at word 63) (bit_at before 0) (bit_at-lt word 63) (bit_at-lt before 0)
change_bit before word (suc i) fits inside =
    let k = 63 - suc i in
    let at : 1 + (63 - suc i) ≡ 63 - i = omega arith in
    let half : bit_at (word / 2 ^ 1) k ≡ bit_at word (63 - i) =
    ap (λ n. n % 2) (shr-shr word 1 k) ∙ ap (bit_at word) at in
    let none : bit_at (before * 2 ^ 63 % 2 ^ 64) k ≡ 0 =
    ap (λ n. bit_at n k) (carried before) ∙ bit_at_cat_low (before % 2) 63 0 k (omega arith) ∙ bit_at-zero k in
    ap (λ b. nat_eq b 1)
    (three_bits before word k ∙ ap (λ b. ((bit_at word k + b) % 2 + bit_at (before * 2 ^ 63 % 2 ^ 64) k) % 2) half
    ∙ ap (λ b. ((bit_at word k + bit_at word (63 - i)) % 2 + b) % 2) none
    ∙ no_third (bit_at word k) (bit_at word (63 - i)))
    ∙ two_digits (bit_at word k) (bit_at word (63 - i)) (bit_at-lt word k) (bit_at-lt word (63 - i))

pub equal_bits : (a b : Bool) → turns_bit a b ≡ false → a ≡ b
equal_bits a b h = grind arith

-- the places left of a pel are no more than the pels before it, and two
pub room_after : (changes : List ℕ) (end from : ℕ) → IsAscending changes end
    → (1 < end → get_or changes (end - 1) 0 < from) → end ≤ from + 2
room_after changes end from up last =
    elim (cases_lt 1 end) [
      | inl more ↦ places_within changes end from up (omega (arith, last more))
      | inr one ↦ omega arith
    ]

-- the last place is below a number where it is one of the changes, and 0 else
pub last_below : (changes : List ℕ) (end n : ℕ) → IsAscending changes end → (1 < end → get_or changes (end - 1) 0 < n)
    → 0 < n
    → get_or changes (end - 1) 0 < n
last_below changes end n up last some = grind (arith, common_steps)
