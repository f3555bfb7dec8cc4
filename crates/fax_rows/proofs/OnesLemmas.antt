-- The ones of a word, byte by byte and one by one.
use Rattle.std.proofs.lemmas.Grind.{common_steps}
use Rattle.std.proofs.Common.{◌≡◌, ℕ, zero, suc, ◌+◌, ◌-◌, ◌*◌, ◌/◌, ◌%◌, ◌^◌, ◌<◌, ◌≤◌, List, [], ◌∷◌, ◌++◌}
use Rattle.std.proofs.Common.{if◌then◌else◌, get_or, nat_eq}
use Rattle.std.proofs.Common.{◌≢◌, true, false, ap, sym, ◌∙◌, arith}
use Rattle.std.specs.Int.{bit_at, to_be_bytes, w64}
use Rattle.std.specs.Int.RustNames.{bit_xor}
use Rattle.std.proofs.Math.Nat.{pow-succ'}
use Rattle.std.proofs.lemmas.List.{append_assoc, append-nil}
use Rattle.std.proofs.lemmas.Nat.{leading_top, one_shl, pow_pos, xor_block, xor_lt}
use Rattle.std.proofs.lemmas.Nat.Bits.{bit_at-zero, bit_at_xor, bit_at-pow_same, bit_at-pow_other, bit_at_above}
use Rattle.std.proofs.lemmas.Nat.Bits.{bit_at_cat_high}
use lib.Count.{count_leading_zeros}
use Rattle.fax_rows.specs.code.PackedWord.{word_bit}
use Rattle.fax_rows.specs.code.Ones.{ones_among}
use Rattle.fax_rows.proofs.PackedWordLemmas.{be_byte, byte_bit}

-- the first j bits of byte q continue from the bits of the bytes before it
ones_of_part : (from word q j : ℕ) → q < 8 → j ≤ 8
    → ones_among from 63 word (8 * q) ++ ones_among (from + 8 * q) 7 (word / 2 ^ (8 * (7 - q)) % 256) j
    ≡ ones_among from 63 word (8 * q + j)
ones_of_part from word q zero few within = grind (arith, common_steps)
ones_of_part from word q (suc j) few within =
    let byte = word / 2 ^ (8 * (7 - q)) % 256 in
    let next : suc (8 * q + j) ≡ 8 * q + suc j = omega arith in
    let column : from + 8 * q + j ≡ from + (8 * q + j) = omega arith in
    let before = ones_among from 63 word (8 * q) in
    let one = nat_eq (bit_at byte (7 - j)) 1 in
    sym (append_assoc before (ones_among (from + 8 * q) 7 byte j) (if one then (from + 8 * q + j) ∷ [] else []))
    ∙ ap (λ xs. xs ++ (if one then (from + 8 * q + j) ∷ [] else [])) (ones_of_part from word q j few (omega arith))
    ∙ ap (λ p. ones_among from 63 word (8 * q + j) ++ (if one then p ∷ [] else [])) column
    ∙ ap (λ b. ones_among from 63 word (8 * q + j) ++ (if nat_eq b 1 then (from + (8 * q + j)) ∷ [] else []))
    (byte_bit word q j few (omega arith))
    ∙ ap (ones_among from 63 word) next

-- the places of the ones of a byte are put after those of the bytes before it
pub byte_goes_on : (old changes new : List ℕ) (from word q byte : ℕ) → q < 8 → byte ≡ get_or (to_be_bytes w64 word) q 0
    → new ≡ changes ++ ones_among (from + 8 * q) 7 byte 8 → changes ≡ old ++ ones_among from 63 word (8 * q)
    → new ≡ old ++ ones_among from 63 word (8 * (q + 1))
byte_goes_on old changes new from word q byte few byte_is put so_far =
    let next : 8 * q + 8 ≡ 8 * (q + 1) = omega arith in
    put ∙ ap (λ ps. ps ++ ones_among (from + 8 * q) 7 byte 8) so_far
    ∙ append_assoc old (ones_among from 63 word (8 * q)) (ones_among (from + 8 * q) 7 byte 8)
    ∙ ap (λ b. old ++ (ones_among from 63 word (8 * q) ++ ones_among (from + 8 * q) 7 b 8))
    (byte_is ∙ be_byte word q few)
    ∙ ap (λ ps. old ++ ps) (ones_of_part from word q 8 few (omega arith) ∙ ap (ones_among from 63 word) next)

-- bits among which there is no one
no_ones : (from word r n : ℕ) → ((i : ℕ) → r ≤ i → i < r + n → word_bit word i ≡ false)
    → ones_among from 63 word (r + n) ≡ ones_among from 63 word r
no_ones from word r zero none = let same : r + 0 ≡ r = omega arith in ap (ones_among from 63 word) same
no_ones from word r (suc n) none =
    let next : r + suc n ≡ suc (r + n) = omega arith in
    ap (ones_among from 63 word) next
    ∙ ap (λ one. ones_among from 63 word (r + n) ++ (if one then (from + (r + n)) ∷ [] else []))
    (none (r + n) (omega arith) (omega arith))
    ∙ append-nil (ones_among from 63 word (r + n))
    ∙ no_ones from word r n (λ i h l. none i h (omega arith))

-- the highest one of a word
pub record IsHighest (remaining at : ℕ) : Type 0 where
  pub within : at < 64
  pub before : (i : ℕ) → i < at → word_bit remaining i ≡ false
  pub there : word_bit remaining at ≡ true
  pub least : 2 ^ (63 - at) ≤ remaining
  pub most : remaining < 2 ^ (63 - at) + 2 ^ (63 - at)

pub highest : (remaining at : ℕ) → 0 < remaining → remaining < 2 ^ 64 → at ≡ count_leading_zeros 64 remaining
    → IsHighest remaining at
highest remaining at some fits is =
    let top = leading_top 64 remaining some fits in
    let j = top.0 in
    let column : 63 - at ≡ j = omega (arith, is, top.1) in
    let double = pow-succ' 2 j in
    let low : remaining - 2 ^ j < 2 ^ j = omega (arith, top.2, top.3, double) in
    let parts : remaining ≡ 1 * 2 ^ j + (remaining - 2 ^ j) = omega (arith, top.2) in
    let one : bit_at remaining j ≡ 1 =
    ap (λ n. bit_at n j) parts ∙ bit_at_cat_high 1 j (remaining - 2 ^ j) j low (omega arith)
    ∙ ap (bit_at 1) (let none : j - j ≡ 0 = omega arith in none) in
    record {
      within = omega (arith, is, top.1);
      before = λ i h. ap (λ b. nat_eq b 1) (bit_at_above remaining (suc j) (63 - i) top.3 (omega (arith, column)));
      there = ap (λ b. nat_eq b 1) (ap (bit_at remaining) column ∙ one);
      least = rw column top.2;
      most = rw column (omega (arith, top.3, double));
    }

-- that bit turned
abbrev pub without : ℕ → ℕ → ℕ
without remaining at = bit_xor remaining (1 * 2 ^ (63 - at) % 2 ^ 64)

shifted_one : (at : ℕ) → 1 * 2 ^ (63 - at) % 2 ^ 64 ≡ 2 ^ (63 - at)
shifted_one at = one_shl (63 - at) 64 (omega arith)

other_bits : (remaining at i : ℕ) → at < 64 → i < 64 → i ≢ at → word_bit (without remaining at) i ≡ word_bit remaining i
other_bits remaining at i within inside differs = grind (arith, common_steps, bit_at_xor, bit_at-pow_other)

that_bit : (remaining at : ℕ) → word_bit remaining at ≡ true → word_bit (without remaining at) at ≡ false
that_bit remaining at there = grind (arith, common_steps, bit_at_xor, bit_at-pow_same)

pub less_without : (remaining at : ℕ) → IsHighest remaining at → without remaining at < remaining
less_without remaining at top =
    let half = 2 ^ (63 - at) in
    let low : remaining - half < half = omega (arith, top.least, top.most) in
    let parts : remaining ≡ 1 * half + (remaining - half) = omega (arith, top.least) in
    let zeros : half ≡ 1 * half + 0 = omega arith in
    let is : without remaining at ≡ bit_xor 1 1 * half + bit_xor (remaining - half) 0 =
    ap (bit_xor remaining) (shifted_one at) ∙ ap (λ n. bit_xor n half) parts
    ∙ ap (bit_xor (1 * half + (remaining - half))) zeros
    ∙ xor_block (63 - at) 1 1 (remaining - half) 0 low (pow_pos (63 - at)) in
    let few : bit_xor (remaining - half) 0 < half = xor_lt (63 - at) (remaining - half) 0 low (pow_pos (63 - at)) in
    omega (arith, is, few, top.least)

-- the ones from bit r of a word on are left
pub record AreLeft (word remaining r : ℕ) : Type 0 where
  pub within : r ≤ 64
  pub gone : (i : ℕ) → i < r → word_bit remaining i ≡ false
  pub rest : (i : ℕ) → r ≤ i → i < 64 → word_bit remaining i ≡ word_bit word i

module _ (word remaining r : ℕ) (so_far : AreLeft word remaining r) where
  -- where none is left up to a bit, there is none
  none_up_to : (from at : ℕ) → r ≤ at → at ≤ 64 → ((i : ℕ) → i < at → word_bit remaining i ≡ false)
      → ones_among from 63 word at ≡ ones_among from 63 word r
  none_up_to from at order within none =
      let sum : r + (at - r) ≡ at = omega arith in
      ap (ones_among from 63 word) (sym sum)
      ∙ no_ones from word r (at - r) (λ i h l. sym (so_far.rest i h (omega arith)) ∙ none i (omega arith))

  pub none_left : (from : ℕ) → remaining ≡ 0 → ones_among from 63 word 64 ≡ ones_among from 63 word r
  none_left from is =
      none_up_to from 64 so_far.within (omega arith) (λ i h. ap (λ n. word_bit n i) is
      ∙ ap (λ b. nat_eq b 1) (bit_at-zero (63 - i)))

  pub ahead : (at : ℕ) → IsHighest remaining at → r ≤ at
  ahead at top = grind arith

  pub less_left : (at : ℕ) → IsHighest remaining at → AreLeft word (without remaining at) (at + 1)
  less_left at top = grind (arith, other_bits, that_bit)

  pub one_more : (from at : ℕ) → IsHighest remaining at
      → ones_among from 63 word r ++ (from + at) ∷ [] ≡ ones_among from 63 word (at + 1)
  one_more from at top = grind (arith, none_up_to)
