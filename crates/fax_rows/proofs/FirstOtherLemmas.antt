-- The first bit that is not of a colour, found by bytes.
use Rattle.std.proofs.lemmas.Grind.{common_steps}
use Rattle.std.proofs.Common.{◌≡◌, ◌≢◌, ℕ, suc, ◌+◌, ◌-◌, ◌*◌, ◌/◌, ◌%◌, ◌^◌, ◌<◌, ◌≤◌, List, [], ◌∷◌, map, length}
use Rattle.std.proofs.Common.{get_or, Bool}
use Rattle.std.proofs.Common.{true, false, if◌then◌else◌, nat_eq, nat_lt, refl, ap, sym, ◌∙◌, arith, inl, inr}
use Rattle.std.specs.Prelude.{◌||◌, not, slice_index_or}
use Rattle.std.proofs.lemmas.Bool.{agree_below, agree_below_at, cases_lt, eqb-true, eqb-false, ltb-true, not-false}
use Rattle.std.proofs.lemmas.Bool.{not-true, or_cases}
use Rattle.std.proofs.lemmas.Simd.{length-chunk, get_or-chunk, trailing_mask_l, run_in_chunk_le, run_in_chunk_fails}
use Rattle.std.proofs.lemmas.Simd.{run_in_chunk_stops}
use Rattle.std.proofs.lemmas.Simd.{none_from_empty_mask}
use Rattle.std.specs.List.{prefix_len}
use lib.Count.{count_leading_zeros, count_trailing_zeros}
use lib.Lanes.{chunk, mask_l}
use Rattle.fax_bits.specs.declared.FillOrder.TheVariants.{MsbFirst}
use Rattle.fax_bits.specs.declared.Colour.{Colour}
use Rattle.fax_bits.specs.declared.Colour.TheVariants.{White, Black}
use Rattle.fax_bits.specs.Bits.{bits}
use Rattle.fax_bits.specs.laws.Codes.{AreBitsByIndex}
use Rattle.fax_rows.specs.Rows.{same_colour, first_index, other}
use Rattle.fax_rows.specs.Coded.{colour_of_bit}
use Rattle.fax_rows.specs.views.Packed.{first_other}
use Rattle.fax_rows.specs.code.FirstOther.{is_other_bit, first_other_in_byte, plain_byte, others, IsFirstOtherByte}
use Rattle.fax_rows.specs.code.Unpacked.{AreWhite}
use Rattle.fax_rows.proofs.ChangeLemmas.{IsFirstPlace, first_place_is}
use Rattle.fax_rows.proofs.ChangePlaceLemmas.{first_place_at}

-- each number below n passes the test
abbrev all_below : (ℕ → Bool) → ℕ → Bool
all_below test n = agree_below test (λ x. true) n

at_below : (test : ℕ → Bool) (n x : ℕ) → all_below test n ≡ true → x < n → test x ≡ true
at_below test n x all within = agree_below_at test (λ x. true) n x all within

-- by leading zeros
abbrev by_zeros : ℕ → ℕ → Colour → ℕ
by_zeros byte from colour =
    if nat_eq (others byte colour * 2 ^ from % 256) 0 then 8 else from + count_leading_zeros 8
    (others byte colour * 2 ^ from % 256)

abbrev is_by_zeros : Colour → ℕ → ℕ → Bool
is_by_zeros colour from byte = nat_eq (by_zeros byte from colour) (first_other_in_byte byte from colour)

each_by_zeros : (colour : Colour) → all_below (λ from. all_below (is_by_zeros colour from) 256) 8 ≡ true
unfolding first_other_in_byte first_index count_leading_zeros
each_by_zeros White = refl
each_by_zeros Black = refl

in_byte_is : (byte from : ℕ) (colour : Colour) → byte < 256 → from < 8
    → by_zeros byte from colour ≡ first_other_in_byte byte from colour
in_byte_is byte from colour fits within =
    eqb-true _ _
    (at_below (is_by_zeros colour from) 256 byte
    (at_below (λ f. all_below (is_by_zeros colour f) 256) 8 from (each_by_zeros colour) within) fits)

by_branch : (ahead more from r : ℕ) → (if nat_eq ahead 0 then 8 else from + more) ≡ r
    → (ahead ≡ 0 → 8 ≡ r) × (ahead ≢ 0 → from + more ≡ r)
by_branch ahead more from r is = grind (arith, common_steps)

pub none_ahead : (byte from : ℕ) (colour : Colour) (bits : ℕ) → byte < 256 → from < 8 → bits ≡ others byte colour
    → bits * 2 ^ from % 256 ≡ 0
    → 8 ≡ first_other_in_byte byte from colour
none_ahead byte from colour bits fits within is none =
    (by_branch (others byte colour * 2 ^ from % 256) _ from _ (in_byte_is byte from colour fits within)).0
    (ap (λ b. b * 2 ^ from % 256) (sym is) ∙ none)

pub some_ahead : (byte from : ℕ) (colour : Colour) (bits : ℕ) → byte < 256 → from < 8 → bits ≡ others byte colour
    → bits * 2 ^ from % 256 ≢ 0
    → from + count_leading_zeros 8 (bits * 2 ^ from % 256) ≡ first_other_in_byte byte from colour
some_ahead byte from colour bits fits within is some =
    ap (λ b. from + count_leading_zeros 8 (b * 2 ^ from % 256)) is
    ∙ (by_branch (others byte colour * 2 ^ from % 256) _ from _ (in_byte_is byte from colour fits within)).1
    (λ none. some (ap (λ b. b * 2 ^ from % 256) is ∙ none))

-- a byte of pels of the colour has no other
plain_has_none : (colour : Colour) → all_below (λ i. not (is_other_bit (plain_byte colour) colour i)) 8 ≡ true
plain_has_none colour = grind arith

plain_bit : (colour : Colour) (i : ℕ) → i < 8 → is_other_bit (plain_byte colour) colour i ≡ false
plain_bit colour i within = not-true _ (at_below (λ k. not (is_other_bit (plain_byte colour) colour k)) 8 i
    (plain_has_none colour) within)

-- and each other byte has one
abbrev is_plain_or_less : Colour → ℕ → Bool
is_plain_or_less colour byte = nat_eq byte (plain_byte colour) || nat_lt (first_other_in_byte byte 0 colour) 8

other_has_one : (colour : Colour) → all_below (is_plain_or_less colour) 256 ≡ true
unfolding first_other_in_byte first_index
other_has_one colour = grind arith

pub found_in_byte : (byte : ℕ) (colour : Colour) → byte < 256 → byte ≢ plain_byte colour
    → first_other_in_byte byte 0 colour < 8
found_in_byte byte colour fits differs =
    elim (or_cases _ _ (at_below (is_plain_or_less colour) 256 byte (other_has_one colour) fits)) [
      | inl same ↦ absurd (differs (eqb-true byte (plain_byte colour) same))
      | inr less ↦ ltb-true (first_other_in_byte byte 0 colour) 8 less
    ]

pub in_byte-ge : (byte from : ℕ) (colour : Colour) → from ≤ first_other_in_byte byte from colour
unfolding first_other_in_byte
in_byte-ge byte from colour = (first_place_is (is_other_bit byte colour) from (8 - from)).from

abbrev pub differs : ℕ → ℕ → Bool
differs plain byte = not (nat_eq byte plain)

-- where no lane passes a test, none is set
none_set : (p : ℕ → Bool) (xs : List ℕ) → ((k : ℕ) → k < length xs → p (get_or xs k 0) ≡ false) → mask_l (map p xs) ≡ 0
none_set p [] fails = refl
none_set p (x ∷ xs) fails =
    omega (
      arith,
      ap {B = ℕ} (λ (b : Bool). if b then 1 else 0) (fails 0 (omega arith)),
      none_set p xs
          (λ k h. fails (suc k) (omega arith)),
    )

differs_false : (plain byte : ℕ) → differs plain byte ≡ false → byte ≡ plain
differs_false plain byte h = eqb-true byte plain (not-false (nat_eq byte plain) h)

differs_true : (plain byte : ℕ) → differs plain byte ≡ true → byte ≢ plain
differs_true plain byte h same = eqb-false byte plain (not-true (nat_eq byte plain) h) same

-- where no lane is set, no byte differs
lanes_plain : (bytes : List ℕ) (at n plain : ℕ) → at + n ≤ length bytes
    → mask_l (map (differs plain) (chunk at n bytes)) ≡ 0
    → (k : ℕ) → at ≤ k → k < at + n → get_or bytes k 0 ≡ plain
lanes_plain bytes at n plain room none k l h =
    differs_false plain (get_or bytes k 0) (none_from_empty_mask (differs plain) bytes at n 0 room none k l h)

-- the lanes of sixteen bytes, where those that differ are set
module _ (bytes : List ℕ) (from at plain : ℕ) (right : from ≤ at) (room : at + 16 ≤ length bytes)
    (same : (k : ℕ) → from ≤ k → k < at → get_or bytes k 0 ≡ plain) where
  pub sixteen_more : mask_l (map (differs plain) (chunk at 16 bytes)) ≡ 0 → (k : ℕ) → from ≤ k → k < at + 16
      → get_or bytes k 0 ≡ plain
  sixteen_more none k l h =
      elim (cases_lt k at) [
        | inl before ↦ same k l before
        | inr after ↦ lanes_plain bytes at 16 plain room none k after h
      ]

  pub found_in_lanes : (r : ℕ) → 0 < mask_l (map (differs plain) (chunk at 16 bytes))
      → r ≡ count_trailing_zeros 64 (mask_l (map (differs plain) (chunk at 16 bytes)))
      → IsFirstOtherByte bytes from plain (at + r)
  found_in_lanes r some is = record {
    right = omega arith;
    within = omega (arith, run_in_chunk_le (differs plain) bytes at 16 r 0 room counted);
    same = λ k l h. elim (cases_lt k at) [
      | inl before ↦ same k l before
      | inr after ↦ differs_false plain (get_or bytes k 0) (run_in_chunk_fails (differs plain) bytes at 16 r 0 room
          counted k after h)
    ];
    other = λ h. differs_true plain (get_or bytes (at + r) 0) (run_in_chunk_stops (differs plain) bytes at 16 r 0 room
        counted near);
  }
    where
      long : length (chunk at 16 bytes) ≡ 16
      long = length-chunk at 16 bytes room

      counted : r ≡ prefix_len (λ x. not (differs plain x)) (chunk at 16 bytes)
      counted = is ∙ trailing_mask_l (differs plain) 64 (chunk at 16 bytes) (omega (arith, long)) some

      none : 16 ≤ r → mask_l (map (differs plain) (chunk at 16 bytes)) ≡ 0
      none far =
          none_set (differs plain) (chunk at 16 bytes)
          (λ k h. ap (differs plain) (get_or-chunk at 16 bytes k 0 (omega (arith, long)))
          ∙ run_in_chunk_fails (differs plain) bytes at 16 r 0 room counted (at + k) (omega arith)
          (omega (arith, long)))

      near : r < 16
      near = elim (cases_lt r 16) [
        | inl less ↦ less
        | inr far ↦ absurd (omega (arith, none far, some))
      ]

-- bit i of the bytes is not of the colour
abbrev pub is_other : List ℕ → Colour → ℕ → Bool
is_other bytes colour i = not (same_colour (colour_of_bit (slice_index_or (bits MsbFirst bytes) i false)) colour)

-- the bits from a place to another are of the colour
abbrev pub IsPlain : List ℕ → Colour → ℕ → ℕ → Type 0
IsPlain bytes colour from to = (k : ℕ) → from ≤ k → k < to → is_other bytes colour k ≡ false

-- the first bit, where those before it are of the colour
pub first_other_is : (bytes : List ℕ) (from r : ℕ) (colour : Colour) → from ≤ r → r ≤ 8 * length bytes
    → IsPlain bytes colour from r → (r < 8 * length bytes → is_other bytes colour r ≡ true)
    → r ≡ first_other bytes from colour
unfolding first_other
first_other_is bytes from r colour right within plain other =
    sym (first_place_at (is_other bytes colour) from (8 * length bytes - from) r right (omega arith) plain
    (λ h. other (omega arith)))

pub plain_on : (bytes : List ℕ) (colour : Colour) (from middle to : ℕ) → IsPlain bytes colour from middle
    → IsPlain bytes colour middle to
    → IsPlain bytes colour from to
plain_on bytes colour from middle to before after k l h = grind (arith, common_steps)

white_bit : (b : Bool) → not (same_colour (colour_of_bit b) White) ≡ false → b ≡ false
white_bit b h = grind arith

-- by the law of the bits of bytes
module _ (law : AreBitsByIndex) where
  pub plain_in_byte : (bytes : List ℕ) (colour : Colour) (q from to : ℕ) → q < length bytes → from < 8
      → to ≤ first_other_in_byte (get_or bytes q 0) from colour → IsPlain bytes colour (8 * q + from) (8 * q + to)
  unfolding first_other_in_byte
  plain_in_byte bytes colour q from to inside within below k l h = grind (arith, common_steps, first_place_is)

  pub other_in_byte : (bytes : List ℕ) (colour : Colour) (q from found k : ℕ) → q < length bytes → from < 8
      → found ≡ first_other_in_byte (get_or bytes q 0) from colour → found < 8 → 8 * q + found ≡ k
      → is_other bytes colour k ≡ true
  unfolding first_other_in_byte
  other_in_byte bytes colour q from found k inside within is near at = grind (arith, first_place_is)

  -- bytes of pels of the colour
  pub plain_bytes : (bytes : List ℕ) (colour : Colour) (from to : ℕ) → to ≤ length bytes
      → ((k : ℕ) → from ≤ k → k < to → get_or bytes k 0 ≡ plain_byte colour) → IsPlain bytes colour (8 * from) (8 * to)
  plain_bytes bytes colour from to within same k l h = grind (arith, plain_bit)

  -- where no lane of 64 bytes is set, they are white
  pub lanes_white : (bytes : List ℕ) (at : ℕ) → at + 64 ≤ length bytes
      → mask_l (map (differs 0) (chunk at 64 bytes)) ≡ 0 → AreWhite (bits MsbFirst bytes) (8 * at) (8 * (at + 64))
  lanes_white bytes at room none i l h =
      white_bit _ (plain_bytes bytes White at (at + 64) room (lanes_plain bytes at 64 0 room none) i l h)

  -- from a bit of a byte that has no other bit after it, up to the first byte that has one
  pub plain_before : (bytes : List ℕ) (colour : Colour) (from here plain after : ℕ) → from / 8 < length bytes
      → here ≡ first_other_in_byte (get_or bytes (from / 8) 0) (from % 8) colour → 8 ≤ here
      → plain ≡ plain_byte colour → IsFirstOtherByte bytes (from / 8 + 1) plain after
      → IsPlain bytes colour from (8 * after)
  plain_before bytes colour from here plain after inside is none plain_is first =
      let below : from % 8 < 8 = omega arith in
      plain_on bytes colour from (8 * (from / 8 + 1)) (8 * after)
      (λ k l h. plain_in_byte bytes colour (from / 8) (from % 8) 8 inside below (omega (arith, is)) k (omega arith)
      (omega arith))
      (plain_bytes bytes colour (from / 8 + 1) after first.within (λ k l h. first.same k l h ∙ plain_is))

-- what stands from a place to the first other bit, and there
pub first_other_stands : (bytes : List ℕ) (from r : ℕ) (colour : Colour) → r ≡ first_other bytes from colour
    → IsFirstPlace (is_other bytes colour) from (8 * length bytes - from) r
unfolding first_other
first_other_stands bytes from r colour is = grind (arith, first_place_is)
