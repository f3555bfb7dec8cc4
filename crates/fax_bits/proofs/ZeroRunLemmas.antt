-- Eleven zeros that stand one after another, in a word and in bytes.
use Rattle.std.proofs.lemmas.Grind.{common_steps}
use Rattle.std.proofs.Common.{◌≡◌, ℕ, ◌+◌, ◌-◌, ◌*◌, ◌/◌, ◌%◌, ◌^◌, ◌<◌, ◌≤◌, List, ◌++◌, length, take, drop, get_or}
use Rattle.std.proofs.Common.{Bool, false, nat_eq, refl, sym, ap, ◌∙◌, arith, append_assoc, inl, inr}
use Rattle.std.specs.Prelude.{bit_and}
use Rattle.std.specs.Int.{bit_at, bit_not, w64}
use Rattle.std.proofs.lemmas.List.{drop-drop}
use Rattle.std.proofs.lemmas.Nat.{shr-shr}
use Rattle.std.proofs.lemmas.Nat.Bits.{bit_at_and, bit_at_not, bit_at-zero}
use Rattle.std.proofs.lemmas.Bool.Decides.{nat_tests}
use Rattle.std.proofs.lemmas.Bool.{cases_lt}
use Rattle.fax_bits.specs.Bits.{FillOrder, bits, code_bits}
use Rattle.fax_bits.specs.views.Source.{HasElevenZeros, SkipsShortZeros, Source, source_of}
use Rattle.fax_bits.specs.code.Source.{HasElevenZeroBits}
use Rattle.fax_bits.proofs.CodeBitsLemmas.{get_or-code_bits, code_bits-add, length-code_bits}
use Rattle.fax_bits.proofs.SourceLemmas.{length-left_of}
use Rattle.fax_bits.proofs.WordLemmas.{bits-drop, bits-four}

-- n bits of a word from bit i up are 1
abbrev AreOnes : ℕ → ℕ → ℕ → Type 0
AreOnes word i n = (k : ℕ) → k < n → bit_at word (i + k) ≡ 1

-- fewer of them are, where a word is put on itself some bits down
both : (word i n d : ℕ) → AreOnes word i (n + d) → AreOnes (bit_and word (word / 2 ^ d)) i n
both word i n d ones k small =
    let up : d + (i + k) ≡ i + (k + d) = omega arith in
    let shifted : bit_at (word / 2 ^ d) (i + k) ≡ 1 =
    ap (λ x. x % 2) (shr-shr word d (i + k)) ∙ ap (bit_at word) up ∙ ones (k + d) (omega arith) in
    bit_at_and word (word / 2 ^ d) (i + k) ∙ rw (ones k (omega arith), shifted) refl

abbrev doubled : ℕ → ℕ → ℕ
doubled word d = bit_and word (word / 2 ^ d)

-- eleven zeros in a word leave a 1
pub zeros_seen : (word i : ℕ) → word < 2 ^ 64 → i + 11 ≤ 64 → HasElevenZeroBits word i
    → doubled (doubled (doubled (doubled (bit_not w64 word) 1) 2) 4) 3 ≡ 0 → ⊥
zeros_seen word i fits within zeros none =
    let one = bit_not w64 word in
    let ones : AreOnes one i 11 = λ k small. omega (
      arith,
      bit_at_not w64 word (i + k) fits (omega arith),
      zeros k small,
    ) in
    let two = both one i 10 1 ones in
    let four = both (doubled one 1) i 8 2 two in
    let eight = both (doubled (doubled one 1) 2) i 4 4 four in
    let last = both (doubled (doubled (doubled one 1) 2) 4) i 1 3 eight 0 (omega arith) in
    let gone = ap (λ w. bit_at w (i + 0)) none ∙ bit_at-zero (i + 0) in
    absurd (omega (arith, last, gone))

-- the bits of two words, one after the other, and those of the bytes after them
pub long_word : (order : FillOrder) (bytes : List ℕ) (at high low : ℕ) → low < 2 ^ 32
    → code_bits 32 high ≡ bits order (take 4 (drop at bytes))
    → code_bits 32 low ≡ bits order (take 4 (drop (at + 4) bytes))
    → bits order (drop at bytes) ≡ code_bits 64 (high * 2 ^ 32 + low) ++ bits order (drop (at + 8) bytes)
long_word order bytes at high low fits first second =
    let rest = bits order (drop (at + 8) bytes) in
    let eight : at + 4 + 4 ≡ at + 8 = omega arith in
    let more : bits order (drop (at + 4) bytes) ≡ code_bits 32 low ++ rest =
    sym (bits-four order bytes (at + 4)) ∙ ap (λ b. b ++ bits order (drop (at + 4 + 4) bytes)) (sym second)
    ∙ ap (λ n. code_bits 32 low ++ bits order (drop n bytes)) eight in
    sym (bits-four order bytes at) ∙ ap (λ b. b ++ bits order (drop (at + 4) bytes)) (sym first)
    ∙ ap (λ b. code_bits 32 high ++ b) more ∙ sym (append_assoc (code_bits 32 high) (code_bits 32 low) rest)
    ∙ ap (λ b. b ++ rest) (sym (code_bits-add 32 32 high low fits))

-- eleven zeros begin at this bit
pub zeros_at : (b : List Bool) (i k : ℕ) → HasElevenZeros (drop i b) → k < 11 → get_or b (i + k) false ≡ false
zeros_at b i k (rest, is) small = grind (arith, common_steps, is)

-- some eleven zeros in eight bytes are in the word of these
module _ (order : FillOrder) (bytes : List ℕ) (at word : ℕ)
    (word_is : bits order (drop at bytes) ≡ code_bits 64 word ++ bits order (drop (at + 8) bytes)) where
  bit_of_word : (j : ℕ) → j < 64 → get_or (bits order bytes) (8 * at + j) false ≡ nat_eq (bit_at word (63 - j)) 1
  bit_of_word j small =
      let split : drop (8 * at) (bits order bytes) ≡ code_bits 64 word ++ bits order (drop (at + 8) bytes) =
      sym (bits-drop order bytes at) ∙ word_is in
      let here : get_or (drop (8 * at) (bits order bytes)) j false ≡ get_or (code_bits 64 word) j false =
      ap (λ b. get_or b j false) split ∙ (grind (arith, common_steps, length-code_bits)) in
      grind (arith, common_steps, here, get_or-code_bits)

  pub word_has_zeros : (i : ℕ) → 8 * at ≤ i → i < 8 * (at + 6) → HasElevenZeros (drop i (bits order bytes))
      → HasElevenZeroBits word (53 - (i - 8 * at))
  word_has_zeros i from below zeros k small =
      let j : ℕ = (i - 8 * at) + (10 - k) in
      let there : 8 * at + j ≡ i + (10 - k) = omega arith in
      let up : 63 - j ≡ 53 - (i - 8 * at) + k = omega arith in
      let zero : nat_eq (bit_at word (63 - j)) 1 ≡ false =
      sym (bit_of_word j (omega arith)) ∙ ap (λ n. get_or (bits order bytes) n false) there
      ∙ zeros_at (bits order bytes) i (10 - k) zeros (omega arith) in
      let low : bit_at word (63 - j) ≡ 0 = grind (arith, nat_tests, zero) in
      ap (bit_at word) (sym up) ∙ low

-- before this byte, and after the other, no eleven zeros begin
abbrev pub HasNone : FillOrder → List ℕ → ℕ → ℕ → Type 0
HasNone order bytes from at = (i : ℕ) → 8 * from ≤ i → i < 8 * at → HasElevenZeros (drop i (bits order bytes)) → ⊥

pub six_more : (order : FillOrder) (bytes : List ℕ) (from at word : ℕ) → HasNone order bytes from at
    → bits order (drop at bytes) ≡ code_bits 64 word ++ bits order (drop (at + 8) bytes)
    → ((i : ℕ) → i + 11 ≤ 64 → HasElevenZeroBits word i → ⊥) → HasNone order bytes from (at + 6)
six_more order bytes from at word none word_is lacks i after below zeros = elim (cases_lt i (8 * at)) [
  | inl before ↦ none i after before zeros
  | inr there ↦ lacks (53 - (i - 8 * at)) (omega arith) (word_has_zeros order bytes at word word_is i there below zeros)
]

-- a source goes on to a byte, up to which no eleven zeros begin
pub skipped : (order : FillOrder) (bytes : List ℕ) (place at : ℕ) (old new : Source)
    → source_of order bytes place ≡ old → at ≤ length bytes → place / 8 < at → HasNone order bytes (place / 8) at
    → new ≡ record { remaining = drop (at * 8 - old.place) old.remaining; place = at * 8 } → SkipsShortZeros old new
skipped order bytes place at old new is within after none new_is =
    let own : place ≡ old.place = ap (λ (s : Source). s.place) is in
    let left : drop place (bits order bytes) ≡ old.remaining = ap (λ (s : Source). s.remaining) is in
    record {
      count = at * 8 - old.place;
      within = omega (arith, own, length-left_of order bytes place old is);
      new_is = new_is ∙ ap (λ n. record { remaining = drop (at * 8 - old.place) old.remaining; place = n }) (omega
          arith);
      none = λ i small zeros.
          let there : drop (place + i) (bits order bytes) ≡ drop i old.remaining =
          sym (drop-drop i place (bits order bytes)) ∙ ap (drop i) left in
          none (place + i) (omega arith) (omega (arith, own)) (zeros.0, there ∙ zeros.1);
    }
