-- The table of the ones in a byte.
use Rattle.std.proofs.lemmas.Grind.{common_steps}
use Rattle.std.proofs.Common.{◌≡◌, ℕ, zero, suc, ◌+◌, ◌*◌, ◌^◌, ◌<◌, ◌≤◌, List, [], ◌∷◌, ◌++◌, map, length, take, drop}
use Rattle.std.proofs.Common.{replicate}
use Rattle.std.proofs.Common.{get_or, Bool, true, false, nat_eq, refl, ap, sym, ◌∙◌, subst, arith, w8, w32}
use Rattle.std.specs.Prelude.{◌&&◌, nat_le}
use Rattle.std.proofs.lemmas.Bool.{and_parts, eqb-true, leb-true}
use Rattle.std.proofs.lemmas.List.{drop-drop, length-map, length-take-le, take-append-le, take-map}
use Rattle.std.proofs.Math.Seq.{take-append-add}
use Rattle.std.proofs.lemmas.Simd.{put_chunk_is, zip2_splat}
use borrow.Rule.Simd.Lanes.{act1, act2}
use borrow.Table.Row.{s_int}
use mir.Syntax.{wrap_add, cast, unsigned}
use lib.Lanes.{zip2, put_chunk}
use Rattle.fax_rows.specs.declared.ones.TheConstants.{COUNTS, PLACES}
use Rattle.fax_rows.specs.code.Ones.{ones_among}

-- equal lists, by a test
abbrev same : List ℕ → List ℕ → Bool
same [] [] = true
same [] (y ∷ ys) = false
same (x ∷ xs) [] = false
same (x ∷ xs) (y ∷ ys) = nat_eq x y && same xs ys

are_same : (xs ys : List ℕ) → same xs ys ≡ true → xs ≡ ys
are_same [] [] h = refl
are_same [] (y ∷ ys) h = cc
are_same (x ∷ xs) [] h = cc
are_same (x ∷ xs) (y ∷ ys) h =
    let parts = and_parts (nat_eq x y) (same xs ys) h in
    ap (λ z. z ∷ xs) (eqb-true x y parts.0) ∙ ap (λ zs. y ∷ zs) (are_same xs ys parts.1)

-- what the table has for a byte
abbrev fits : ℕ → ℕ → List ℕ → Bool
fits byte count eight = nat_le count 8 && (nat_eq (length eight) 8 && same (take count eight) (ones_among 0 7 byte 8))

-- and for all bytes from one on
abbrev all_fit : ℕ → List ℕ → List ℕ → Bool
all_fit byte [] changes = true
all_fit byte (count ∷ counts) changes = fits byte count (take 8 changes) && all_fit (suc byte) counts (drop 8 changes)

table_fits : all_fit 0 COUNTS PLACES ≡ true
table_fits = refl

fits_at : (byte : ℕ) (counts changes : List ℕ) (i : ℕ) → all_fit byte counts changes ≡ true → i < length counts
    → fits (byte + i) (get_or counts i 0) (take 8 (drop (8 * i) changes)) ≡ true
fits_at byte [] changes i all within = absurd (omega arith)
fits_at byte (count ∷ counts) changes zero all within =
    let here : byte + zero ≡ byte = omega arith in
    rw here (and_parts (fits byte count (take 8 changes)) (all_fit (suc byte) counts (drop 8 changes)) all).0
fits_at byte (count ∷ counts) changes (suc i) all within =
    let next : suc byte + i ≡ byte + suc i = omega arith in
    let column : 8 + 8 * i ≡ 8 * suc i = omega arith in
    let rest = (and_parts (fits byte count (take 8 changes)) (all_fit (suc byte) counts (drop 8 changes)) all).1 in
    subst (λ n. fits n (get_or counts i 0) (take 8 (drop (8 * suc i) changes)) ≡ true) next
    (subst (λ ps. fits (suc byte + i) (get_or counts i 0) (take 8 ps) ≡ true)
    (drop-drop (8 * i) 8 changes ∙ ap (λ n. drop n changes) column)
    (fits_at (suc byte) counts (drop 8 changes) i rest (omega arith)))

-- the eight numbers for a byte
abbrev pub eight_of : ℕ → List ℕ
eight_of byte = take 8 (drop (8 * byte) PLACES)

-- the first of them are the places of its ones
pub record HasOnes (byte count : ℕ) (eight : List ℕ) : Type 0 where
  pub few : count ≤ 8
  pub eight_are : length eight ≡ 8
  pub changes : take count eight ≡ ones_among 0 7 byte 8

pub has_ones : (byte : ℕ) → byte < 256 → HasOnes byte (get_or COUNTS byte 0) (eight_of byte)
has_ones byte within =
    let count = get_or COUNTS byte 0 in
    let eight = eight_of byte in
    let none : 0 + byte ≡ byte = omega arith in
    let here = subst (λ n. fits n count eight ≡ true) none (fits_at 0 COUNTS PLACES byte table_fits within) in
    let first = and_parts (nat_le count 8) (nat_eq (length eight) 8 && same (take count eight) (ones_among 0 7 byte 8))
    here in
    let second = and_parts (nat_eq (length eight) 8) (same (take count eight) (ones_among 0 7 byte 8)) first.1 in
    record {
      few = leb-true count 8 first.0;
      eight_are = eqb-true (length eight) 8 second.0;
      changes = are_same (take count eight) (ones_among 0 7 byte 8) second.1;
    }

pub few_ones : (end byte : ℕ) → byte < 256 → end + get_or COUNTS byte 0 ≤ end + 8
few_ones end byte within = omega (arith, (has_ones byte within).few)

-- the operators of a lane
abbrev pub added : ℕ → ℕ → ℕ
added = act2 wrap_add (s_int w32) (s_int w32) (s_int w32)

abbrev pub widened : ℕ → ℕ
widened = act1 (cast unsigned unsigned w32) (s_int w8) (s_int w32)

map_widened : (xs : List ℕ) → map widened xs ≡ xs
map_widened [] = refl
map_widened (x ∷ xs) = ap (λ zs. x ∷ zs) (map_widened xs)

ones_added : (byte from k : ℕ) → k ≤ 8 → from + 8 < 2 ^ 32
    → map (λ y. added y from) (ones_among 0 7 byte k) ≡ ones_among from 7 byte k
ones_added byte from zero few small = refl
ones_added byte from (suc k) few small = grind (arith, common_steps, ones_added byte from k (omega arith) small)

-- eight places are put, of which the first are those of the ones
pub byte_put : (changes eight : List ℕ) (end count from byte : ℕ) → end + 8 ≤ length changes → from + 8 < 2 ^ 32
    → HasOnes byte count eight
    → take (end + count) (put_chunk end changes (zip2 added (map widened eight) (replicate 8 from)))
    ≡ take end changes ++ ones_among from 7 byte 8
byte_put changes eight end count from byte room small has =
    ap (take (end + count)) (put_chunk_is end changes lanes (omega (arith, room, long)))
    ∙ ap (λ n. take (n + count) (take end changes ++ (lanes ++ rest)))
    (sym (length-take-le end changes (omega (arith, room))))
    ∙ take-append-add (take end changes) (lanes ++ rest) count
    ∙ ap (λ xs. take end changes ++ xs) (take-append-le count lanes rest (omega (arith, has.few, long)) ∙ shown)
  where
    lanes : List ℕ
    lanes = zip2 added (map widened eight) (replicate 8 from)

    rest : List ℕ
    rest = drop (length lanes) (drop end changes)

    lanes_are : lanes ≡ map (λ y. added y from) eight
    lanes_are = ap (λ xs. zip2 added xs (replicate 8 from)) (map_widened eight)
        ∙ zip2_splat added eight 8 from has.eight_are

    long : length lanes ≡ 8
    long = ap length lanes_are ∙ length-map eight (λ y. added y from) ∙ has.eight_are

    shown : take count lanes ≡ ones_among from 7 byte 8
    shown =
        ap (take count) lanes_are ∙ take-map (λ y. added y from) count eight ∙ ap (map (λ y. added y from)) has.changes
        ∙ ones_added byte from 8 (omega arith) small
