-- A row packed by words of 64 pels.
use Rattle.std.proofs.lemmas.Grind.{common_steps}
use Rattle.std.proofs.Common.{◌≡◌, ℕ, ◌+◌, ◌-◌, ◌*◌, ◌/◌, ◌%◌, ◌^◌, ◌<◌, ◌≤◌, List, map, Bool, add-one}
use Rattle.std.proofs.Common.{get_or, true, false, not, nat_eq, ap, sym, ◌∙◌, arith, inl, inr}
use Rattle.std.specs.Int.{bit_at, to_be_bytes, w64}
use Rattle.std.specs.Int.RustNames.{bit_xor}
use Rattle.std.proofs.lemmas.Bool.{cases_lt}
use Rattle.std.proofs.lemmas.Nat.{shr-shr, shr_split}
use Rattle.std.proofs.lemmas.Nat.Bits.{bit_at-zero, bit_at_xor, bit_at_ones, bit_at_ones_above, bit_at_cat_low}
use Rattle.std.proofs.lemmas.Nat.Bits.{ones_shr}
use Rattle.fax_bits.specs.declared.Colour.{Colour}
use Rattle.fax_bits.specs.declared.Colour.TheVariants.{White, Black}
use Rattle.fax_rows.specs.Rows.{other}
use Rattle.fax_rows.specs.Coded.{is_black}
use Rattle.fax_rows.specs.declared.change_list.ChangingElements.{ChangingElements}
use Rattle.fax_rows.specs.code.PackedWord.{word_bit, IsPackedByte, IsPackedWord, IsWordTo}
use Rattle.fax_rows.specs.code.ChangingElements.{element_pels}
use Rattle.fax_rows.specs.code.ChangeLists.{alternate, HasPassed}
use Rattle.fax_rows.proofs.PackingLemmas.{bit_after, none_after}
use Rattle.fax_rows.proofs.TurnLemmas.{alternate-suc, not_later}

-- a word with its bits turned from one on
abbrev pub turned_word : ℕ → ℕ → ℕ
turned_word word s = bit_xor word ((2 ^ 64 - 1) / 2 ^ s)

ones-bits : (word s i : ℕ) → s ≤ 64 → bit_at (turned_word word s) i ≡ (bit_at word i + bit_at (2 ^ (64 - s) - 1) i) % 2
ones-bits word s i within = ap (λ ones. bit_at (bit_xor word ones) i) (ones_shr 64 s within)
    ∙ bit_at_xor word (2 ^ (64 - s) - 1) i

turned_left : (word s i : ℕ) → s < 64 → i < s → word_bit (turned_word word s) i ≡ word_bit word i
turned_left word s i within before = grind (arith, common_steps, ones-bits, bit_at_ones_above)

turned_right : (word s i : ℕ) → s < 64 → s ≤ i → i < 64 → word_bit (turned_word word s) i ≡ not (word_bit word i)
turned_right word s i within after inside = grind (arith, common_steps, ones-bits, bit_at_ones)

not_after : (k : ℕ) → not (is_black (alternate Black k)) ≡ is_black (alternate Black (k + 1))
not_after k = rw (add-one, alternate-suc Black k) (not_black (alternate Black k))
  where
    not_black : (c : Colour) → not (is_black c) ≡ is_black (other c)
    not_black c = grind arith

pub white_word : (i : ℕ) → word_bit 0 i ≡ false
white_word i = ap (λ b. nat_eq b 1) (bit_at-zero (63 - i))

pub black_word : (i : ℕ) → word_bit (2 ^ 64 - 1) i ≡ true
black_word i = ap (λ b. nat_eq b 1) (bit_at_ones 64 (63 - i) (omega arith))

module _ (row : ChangingElements) where
  abbrev pels : List Bool
  pels = map is_black (element_pels row)

  pub word_started : (from word k : ℕ) → HasPassed row.changes.now row.end from k
      → ((i : ℕ) → word_bit word i ≡ is_black (alternate Black k)) → IsWordTo row from word k
  word_started from word k passed is = grind arith

  -- the pels up to the next place
  pub pel_of_word : {from word k : ℕ} → IsWordTo row from word k → (i : ℕ) → i < 64 → from + i < row.width
      → (k < row.end → from + i < get_or row.changes.now k 0) → word_bit word i ≡ get_or pels (from + i) false
  pel_of_word so_far i inside wide right = grind (arith, common_steps, bit_after)

  -- after the last place stands the width
  pub before_end : {from word k : ℕ} → IsWordTo row from word k → get_or row.changes.now k 0 < row.width → k < row.end
  before_end {k = k} so_far near = grind arith

  -- the next place turns the pels from there on
  pub word_turned : (from word k s : ℕ) → IsWordTo row from word k → get_or row.changes.now k 0 < row.width
      → get_or row.changes.now k 0 < from + 64 → (from ≤ get_or row.changes.now k 0
      → s ≡ get_or row.changes.now k 0 - from)
      → IsWordTo row from (turned_word word s) (k + 1)
  word_turned from word k s so_far wide near shift = record {
    some = omega arith;
    within = omega (arith, inside);
    ahead = λ h. omega (arith, ahead, row.elements.ascending.steps k so_far.some h);
    before = λ i h l.
        turned_left word s i (omega (arith, at)) (omega (arith, last, at, ahead))
        ∙ pel_of_word so_far i h (omega (arith, last)) (λ r. omega (arith, last));
    after = λ i h l.
        turned_right word s i (omega (arith, at)) (omega (arith, last, at)) h
        ∙ ap not (so_far.after i h (omega (arith, last, order))) ∙ not_after k;
  }
    where
      inside : k < row.end
      inside = before_end so_far wide

      ahead : from ≤ get_or row.changes.now k 0
      ahead = so_far.ahead inside

      at : s ≡ get_or row.changes.now k 0 - from
      at = shift ahead

      last : get_or row.changes.now (k + 1 - 1) 0 ≡ get_or row.changes.now k 0
      last = let same : k + 1 - 1 ≡ k = omega arith in ap (λ m. get_or row.changes.now m 0) same

      order : get_or row.changes.now (k - 1) 0 ≤ get_or row.changes.now k 0
      order = not_later row.elements.ascending (k - 1) k (omega arith) inside

  -- all pels of a word within the row
  pub word_done : {from word k : ℕ} → IsWordTo row from word k → HasPassed row.changes.now row.end (from + 64) k
      → from + 64 ≤ row.width
      → IsPackedWord (element_pels row) from word
  word_done so_far passed wide i h = pel_of_word so_far i h (omega arith) (λ l. omega (arith, passed.right l))

  -- and of one in which the row ends, where white pels stand after it
  pub white_done : {from word k : ℕ} → IsWordTo row from word k → HasPassed row.changes.now row.end row.width k
      → alternate Black k ≡ White
      → IsPackedWord (element_pels row) from word
  white_done {from = from} so_far passed white i h = grind (arith, pel_of_word, none_after)

  -- or black ones, which are turned
  pub black_done : {from word k : ℕ} (s : ℕ) → IsWordTo row from word k → HasPassed row.changes.now row.end row.width k
      → alternate Black k ≡ Black → from + s ≡ row.width → s < 64
      → IsPackedWord (element_pels row) from (turned_word word s)
  black_done {from = from} {word = word} s so_far passed black ends short i h =
      elim (cases_lt (from + i) row.width) [
        | inl less ↦ turned_left word s i short (omega arith) ∙ pel_of_word so_far i h less
            (λ l. omega (arith, passed.right l))
        | inr more ↦
            turned_right word s i short (omega arith) h ∙ ap not (so_far.after i h (omega (arith, passed.left_hand))
            ∙ ap is_black black)
            ∙ sym (none_after row.elements (from + i) more)
      ]

-- a byte of a word
pub byte_bit : (word j r : ℕ) → j < 8 → r < 8 → bit_at (word / 2 ^ (8 * (7 - j)) % 256) (7 - r)
    ≡ bit_at word (63 - (8 * j + r))
byte_bit word j r few in_byte =
    let high = word / 2 ^ (8 * (7 - j)) in
    let column : 8 * (7 - j) + (7 - r) ≡ 63 - (8 * j + r) = omega arith in
    sym (bit_at_cat_low (high / 2 ^ 8) 8 (high % 2 ^ 8) (7 - r) (omega arith))
    ∙ ap (λ n. bit_at n (7 - r)) (shr_split high 8)
    ∙ ap (λ n. n % 2) (shr-shr word (8 * (7 - j)) (7 - r)) ∙ ap (bit_at word) column

-- the bytes of a word, the highest first
pub be_byte : (n i : ℕ) → i < 8 → get_or (to_be_bytes w64 n) i 0 ≡ n / 2 ^ (8 * (7 - i)) % 256
be_byte n i h = grind arith

-- they are those of its pels
pub byte_of_word : (row : List Colour) (from word j column : ℕ) → IsPackedWord row from word → j < 8
    → from + 8 * j ≡ column
    → IsPackedByte row column (get_or (to_be_bytes w64 word) j 0)
byte_of_word row from word j column packed few is i h =
    let at : from + (8 * j + i) ≡ column + i = omega arith in
    ap (λ byte. nat_eq (bit_at byte (7 - i)) 1) (be_byte word j few) ∙ ap (λ b. nat_eq b 1) (byte_bit word j i few h)
    ∙ packed (8 * j + i) (omega arith) ∙ ap (λ n. get_or (map is_black row) n false) at
