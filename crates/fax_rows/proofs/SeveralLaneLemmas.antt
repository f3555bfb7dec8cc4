-- The a1s of vertical modes in lanes.
use Rattle.std.proofs.Common.{rules, ◌≡◌, ℕ, zero, suc, ◌+◌, ◌-◌, ◌^◌, ◌<◌, ◌≤◌, List, [], ◌∷◌, ◌++◌, length, map, take}
use Rattle.std.proofs.Common.{drop, get_or}
use Rattle.std.proofs.Common.{refl, ap, ◌∙◌, subst, arith, w8, w32, ltb, bit_and}
use Rattle.std.proofs.lemmas.Grind.{common_steps}
use Rattle.std.specs.Int.{bit_at}
use Rattle.std.proofs.lemmas.List.{get_or-map, length-map}
use Rattle.std.proofs.lemmas.Nat.Bits.{bit_at_and, bit_at_ones}
use Rattle.std.proofs.lemmas.Simd.{get_or-zip2, get_or-chunk, length-chunk, length-zip2, bit_mask_l}
use Rattle.fax_rows.specs.code.Several.{AreFour}
use borrow.Rule.Simd.Lanes.{act1, act2}
use borrow.Table.Row.{s_int}
use mir.Syntax.{wrap_add, wrap_sub, cast, unsigned}
use lib.Lanes.{zip2, mask_l, pick_l, chunk}

-- the operators of a lane
abbrev pub added : ℕ → ℕ → ℕ
added = act2 wrap_add (s_int w32) (s_int w32) (s_int w32)

abbrev pub less : ℕ → ℕ → ℕ
less = act2 wrap_sub (s_int w32) (s_int w32) (s_int w32)

abbrev pub widened : ℕ → ℕ
widened = act1 (cast unsigned unsigned w32) (s_int w8) (s_int w32)

pub added_is : (x y : ℕ) → x + y < 2 ^ 32 → added x y ≡ x + y
added_is x y small = omega arith

-- the lanes of four places, and so much more
pub raised_at : (f : ℕ → ℕ → ℕ) (others ys : List ℕ) (b i : ℕ) → b + 4 ≤ length others → length ys ≡ 4 → i < 4
    → get_or (zip2 f (take 4 (drop b others)) ys) i 0 ≡ f (get_or others (b + i) 0) (get_or ys i 0)
raised_at f others ys b i room long h =
    get_or-zip2 f (chunk b 4 others) ys i 0 0 0 (omega (arith, length-chunk b 4 others room)) (omega arith)
    ∙ ap (λ x. f x (get_or ys i 0)) (get_or-chunk b 4 others i 0 h)

pub length-raised : (f : ℕ → ℕ → ℕ) (others ys : List ℕ) (b : ℕ) → b + 4 ≤ length others → length ys ≡ 4
    → length (zip2 f (take 4 (drop b others)) ys) ≡ 4
length-raised f others ys b room long = grind (arith, common_steps, length-zip2)

pub lane_less : (xs ys : List ℕ) (i : ℕ) → i < length xs → i < length ys → bit_at (mask_l (zip2 ltb xs ys)) i ≡ 1
    → get_or xs i 0 < get_or ys i 0
lane_less xs ys i inside within set = grind (arith, common_steps, bit_mask_l)

-- bits that are set in each of three numbers
all_set : (a b c wanted i : ℕ) → bit_and (bit_and (bit_and a b) c) wanted ≡ wanted → bit_at wanted i ≡ 1
    → (bit_at a i ≡ 1) × (bit_at b i ≡ 1) × (bit_at c i ≡ 1)
all_set a b c wanted i is set = grind (arith, bit_at_and)

pub three_set : (a b c count i : ℕ) → bit_and (bit_and (bit_and a b) c) (2 ^ count - 1) ≡ 2 ^ count - 1 → i < count
    → (bit_at a i ≡ 1) × (bit_at b i ≡ 1) × (bit_at c i ≡ 1)
three_set a b c count i is h = all_set a b c (2 ^ count - 1) i is (bit_at_ones count i h)

-- the lanes before these
abbrev pub before : List ℕ → ℕ → List ℕ
before lanes from = pick_l 0 (lanes ++ (from ∷ from ∷ from ∷ from ∷ [])) (4 ∷ 0 ∷ 1 ∷ 2 ∷ [])

pub first_before : (lanes : List ℕ) (from : ℕ) → length lanes ≡ 4 → get_or (before lanes from) 0 0 ≡ from
first_before lanes from long = grind (arith, common_steps)

-- the same number in four lanes
pub splat_at : (n i : ℕ) → i < 4 → get_or (n ∷ n ∷ n ∷ n ∷ []) i 0 ≡ n
splat_at n i h = grind arith

abbrev pub raised_lanes : List ℕ → List ℕ → ℕ → List ℕ
raised_lanes others biased_offsets b = zip2 added (take 4 (drop b others)) (map widened biased_offsets)

abbrev pub splat_lanes : List ℕ → ℕ → ℕ → List ℕ
splat_lanes others b n = zip2 added (take 4 (drop b others)) (n ∷ n ∷ n ∷ n ∷ [])

module _ (others biased_offsets : List ℕ) (b count from : ℕ) (some : 0 < b) (room : b + 5 ≤ length others)
    (small : (i : ℕ) → i < 6 → get_or others (b - 1 + i) 0 < 2 ^ 16) (near : (i : ℕ) → i < 4
    → get_or biased_offsets i 0 < 7)
    (few : count ≤ 4) (long : length biased_offsets ≡ 4) where
  wide : length (map widened biased_offsets) ≡ 4
  wide = length-map biased_offsets widened ∙ long

  pub length-raised_lanes : length (raised_lanes others biased_offsets b) ≡ 4
  length-raised_lanes = length-raised added others (map widened biased_offsets) b (omega (arith, room)) wide

  pub length-left_lanes : length (splat_lanes others (b - 1) 2) ≡ 4
  length-left_lanes = length-raised added others (2 ∷ 2 ∷ 2 ∷ 2 ∷ []) (b - 1) (omega (arith, room)) refl

  pub length-right_lanes : length (splat_lanes others (b + 1) 3) ≡ 4
  length-right_lanes = length-raised added others (3 ∷ 3 ∷ 3 ∷ 3 ∷ []) (b + 1) (omega (arith, room)) refl

  limit_at : (i : ℕ) → i < 4 → get_or others (b + i) 0 < 2 ^ 16
  limit_at i h = grind arith

  limit_after : (i : ℕ) → i < 4 → get_or others (b + 1 + i) 0 < 2 ^ 16
  limit_after i h = grind arith

  raised_of : (i : ℕ) → i < 4 → get_or (raised_lanes others biased_offsets b) i 0
      ≡ get_or others (b + i) 0 + get_or biased_offsets i 0
  raised_of i h =
      raised_at added others (map widened biased_offsets) b i (omega (arith, room)) wide h
      ∙ ap (added (get_or others (b + i) 0)) (get_or-map widened biased_offsets i 0 0 (omega (arith, h, long)))
      ∙ added_is (get_or others (b + i) 0) (get_or biased_offsets i 0) (omega (arith, limit_at i h, near i h))

  raised_is : (i : ℕ) → i < count → get_or (raised_lanes others biased_offsets b) i 0
      ≡ get_or others (b + i) 0 + get_or biased_offsets i 0
  raised_is i h = raised_of i (omega (arith, h, few))

  splat_is : (c n i : ℕ) → c + 4 ≤ length others → n < 8 → i < 4 → get_or others (c + i) 0 < 2 ^ 16
      → get_or (splat_lanes others c n) i 0 ≡ get_or others (c + i) 0 + n
  splat_is c n i within less h limit = search (rules, raised_at, splat_at)

  -- none of the lanes has its highest bit
  pub raised_four : AreFour (raised_lanes others biased_offsets b)
  raised_four = grind (arith, length-raised_lanes, raised_of)

  pub left_four : AreFour (splat_lanes others (b - 1) 2)
  left_four = grind (arith, splat_is)

  pub right_four : AreFour (splat_lanes others (b + 1) 3)
  right_four = search (rules, length-right_lanes, splat_is, limit_after)

  pub before_four : from < 2 ^ 31 → AreFour (before (raised_lanes others biased_offsets b) from)
  before_four near_from = record {
    length = refl;
    small = by;
  }
    where
      by : (i : ℕ) → i < 4 → get_or (before (raised_lanes others biased_offsets b) from) i 0 < 2 ^ 31
      by zero h = omega (arith, first_before (raised_lanes others biased_offsets b) from length-raised_lanes, near_from)
      by (suc i) h = grind (arith, common_steps, raised_of, limit_at)

  module _ (left_set : (i : ℕ) → i < count → bit_at (mask_l (zip2 ltb (splat_lanes others (b - 1) 2)
      (raised_lanes others biased_offsets b))) i ≡ 1)
      (right_set : (i : ℕ) → i < count → bit_at (mask_l (zip2 ltb (raised_lanes others biased_offsets b)
      (splat_lanes others (b + 1) 3))) i ≡ 1)
      (before_set : (i : ℕ) → i < count
      → bit_at (mask_l (zip2 ltb (before (raised_lanes others biased_offsets b) from) (raised_lanes others
      biased_offsets b))) i ≡ 1)
    where
      abbrev pub lanes : List ℕ
      lanes = zip2 less (raised_lanes others biased_offsets b) (3 ∷ 3 ∷ 3 ∷ 3 ∷ [])

      left_of : (i : ℕ) → i < count → get_or others (b - 1 + i) 0 + 2 < get_or (raised_lanes others biased_offsets b) i
          0
      left_of i h = grind (arith, splat_is, lane_less, length-left_lanes, length-raised_lanes)

      pub lane_is : (i : ℕ) → i < count → get_or lanes i 0 + 3 ≡ get_or (raised_lanes others biased_offsets b) i 0
      lane_is i h = grind (arith, left_of)

      pub lane_raised : (i : ℕ) → i < count → get_or lanes i 0 + 3 ≡ get_or others (b + i) 0 + get_or biased_offsets i 0
      lane_raised i h = lane_is i h ∙ raised_is i h

      pub lane_left : (i : ℕ) → i < count → get_or others (b - 1 + i) 0 ≤ get_or lanes i 0
      lane_left i h = omega (arith, lane_is i h, left_of i h)

      pub lane_right : (i : ℕ) → i < count → get_or lanes i 0 < get_or others (b + 1 + i) 0
      lane_right i h =
          let e : b - 1 + (i + 2) ≡ b + 1 + i = omega (arith, some) in
          let limit = subst (λ m. get_or others m 0 < 2 ^ 16) e (small (i + 2) (omega (arith, h, few))) in
          omega (
            arith,
            lane_is i h,
            splat_is (b + 1) 3 i (omega (arith, room)) (omega arith) (omega (arith, h, few)) limit,
            lane_less (raised_lanes others biased_offsets b) (splat_lanes others (b + 1) 3) i
                (omega (arith, length-raised_lanes, h, few))
                (omega (arith, length-right_lanes, h, few)) (right_set i h),
          )

      length-before : length (before (raised_lanes others biased_offsets b) from) ≡ 4
      length-before = refl

      before_of : (i : ℕ) → i < count
          → get_or (before (raised_lanes others biased_offsets b) from) i 0 < get_or (raised_lanes others biased_offsets
          b) i 0
      before_of i h =
          lane_less (before (raised_lanes others biased_offsets b) from) (raised_lanes others biased_offsets b) i
          (omega (arith, length-before, h, few))
          (omega (arith, length-raised_lanes, h, few)) (before_set i h)

      pub lane_first : 0 < count → from < get_or lanes 0 0 + 3
      lane_first h = omega (
        arith,
        lane_is 0 h,
        before_of 0 h,
        first_before (raised_lanes others biased_offsets b) from
            length-raised_lanes,
      )

      pub lane_ascending : (i : ℕ) → i + 1 < count → get_or lanes i 0 < get_or lanes (i + 1) 0
      lane_ascending i h = grind (arith, lane_is, before_of)
