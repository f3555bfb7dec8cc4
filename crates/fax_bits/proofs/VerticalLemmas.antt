-- The arrays of the vertical modes hold codes of vertical modes, one after another.
use Rattle.std.proofs.lemmas.Bool.{and_parts}
use Rattle.std.proofs.lemmas.Grind.{common_steps}
use Rattle.std.proofs.Common.{◌≡◌, ℕ, zero, suc, ◌+◌, ◌-◌, ◌*◌, ◌/◌, ◌^◌, ◌<◌, ◌≤◌, List, [], ◌∷◌, ◌++◌, map, length}
use Rattle.std.proofs.Common.{take, get_or, Bool, true}
use Rattle.std.proofs.Common.{false, if◌then◌else◌, refl, ap, sym, ◌∙◌, subst, arith, append_assoc, zero-add}
use Rattle.std.specs.Prelude.{◌&&◌, nat_lt, nat_le, nat_eq, flat_map, All, pos, negsuc, ◌≤ℤ◌}
use Rattle.std.specs.Int.{to_le_bytes, w32}
use Rattle.std.proofs.lemmas.Int.{ints}
use Rattle.std.proofs.lemmas.List.Elements.{All-nil, All-cons, All-head, All-tail}
use Rattle.std.proofs.lemmas.Nat.{mul-add-lt, pow-add}
use Rattle.std.proofs.Math.Nat.{div-div-eq-div-mul, pow-succ'}
use Rattle.fax_bits.specs.declared.vertical_indexes.TheConstants.{VERTICALS}
use Rattle.fax_bits.specs.Bits.{code_bits}
use Rattle.fax_bits.specs.Codes.{Decodes, DecodesAll}
use Rattle.fax_bits.specs.Tables.{modes}
use Rattle.fax_bits.specs.Written.{mode_bits}
use Rattle.fax_bits.specs.code.LookUp.{IsBegun, AreVerticals}
use Rattle.fax_bits.specs.declared.verticals.Verticals.{Verticals}
use Rattle.fax_bits.specs.views.Verticals.{shift, vertical, AreVerticalsRead}
use Rattle.fax_bits.proofs.CodeBitsLemmas.{code_bits-add, length-code_bits}
use Rattle.fax_bits.proofs.FindLemmas.{code_ahead}
use Rattle.fax_bits.proofs.ModeLemmas.{mode_bits_are_read}

-- the codes of the vertical modes, and their lengths
abbrev codes : List ℕ
codes = 2 ∷ 2 ∷ 2 ∷ 1 ∷ 3 ∷ 3 ∷ 3 ∷ []

abbrev code_lens : List ℕ
code_lens = 7 ∷ 6 ∷ 3 ∷ 1 ∷ 3 ∷ 6 ∷ 7 ∷ []

-- of some of them, one after another
abbrev len_of : List ℕ → ℕ
len_of [] = 0
len_of (raised ∷ biased_offsets) = get_or code_lens raised 0 + len_of biased_offsets

abbrev code_of : List ℕ → ℕ
code_of [] = 0
code_of (raised ∷ biased_offsets) = get_or codes raised 0 * 2 ^ len_of biased_offsets + code_of biased_offsets

abbrev are_near : List ℕ → Bool
are_near [] = true
are_near (raised ∷ biased_offsets) = nat_lt raised 7 && are_near biased_offsets

-- the first bits of the twelve that a number spells are the codes of these modes
abbrev spells : ℕ → ℕ → List ℕ → Bool
spells number len biased_offsets =
    nat_le len 12 && (are_near biased_offsets && (nat_eq len (len_of biased_offsets) && nat_eq (number / 2 ^ (12 - len))
    (code_of biased_offsets)))

-- and they are one to four of four
abbrev is_several : ℕ → ℕ → ℕ → List ℕ → Bool
is_several number len count four =
    nat_lt 0 count && (nat_le count 4 && (nat_eq (length four) 4 &&
    (are_near four && spells number len (take count four))))

-- those of each number from this one on are, where they have a length
abbrev are_verticals : ℕ → List ℕ → List ℕ → List ℕ → Bool
are_verticals number [] counts biased_offsets = true
are_verticals number (len ∷ lens) [] biased_offsets = false
are_verticals number (len ∷ lens) (count ∷ counts) [] = false
are_verticals number (len ∷ lens) (count ∷ counts) (four ∷ biased_offsets) =
    (if nat_eq len 0 then true else is_several number len count (to_le_bytes w32 four)) && are_verticals (suc number)
    lens counts biased_offsets

verticals_are : are_verticals 0 VERTICALS.lens VERTICALS.counts VERTICALS.biased_offsets ≡ true
verticals_are = refl

vertical_at : (number : ℕ) (lens counts : List ℕ) (biased_offsets : List ℕ) (i : ℕ)
    → are_verticals number lens counts biased_offsets ≡ true
    → i < length lens → 0 < get_or lens i 0
    → is_several (number + i) (get_or lens i 0) (get_or counts i 0) (to_le_bytes w32 (get_or biased_offsets i 0)) ≡ true
vertical_at number [] counts biased_offsets i are within some = absurd (omega arith)
vertical_at number (len ∷ lens) [] biased_offsets i are within some = cc
vertical_at number (len ∷ lens) (count ∷ counts) [] i are within some = cc
vertical_at number (len ∷ lens) (count ∷ counts) (four ∷ biased_offsets) zero are within some = grind (
  arith,
  common_steps,
)
vertical_at number (len ∷ lens) (count ∷ counts) (four ∷ biased_offsets) (suc i) are within some =
    let e : number + suc i ≡ suc number + i = omega arith in
    rw e (vertical_at (suc number) lens counts biased_offsets i
    (and_parts (if nat_eq len 0 then true else is_several number len count (to_le_bytes w32 four)) _ are).1
    (omega arith) some)

lt-from_test : (n m : ℕ) → nat_lt n m ≡ true → n < m
lt-from_test n m h = grind arith

near_from_test : (biased_offsets : List ℕ) → are_near biased_offsets ≡ true → All (λ raised. raised < 7) biased_offsets
near_from_test [] h = All-nil (λ raised. raised < 7)
near_from_test (raised ∷ biased_offsets) h =
    let parts = and_parts (nat_lt raised 7) (are_near biased_offsets) h in
    All-cons (λ raised. raised < 7) raised biased_offsets (lt-from_test raised 7 parts.0) (near_from_test biased_offsets
    parts.1)

-- each code is that of its mode, and fits
one_vertical : (raised : ℕ) → raised < 7 → code_bits (get_or code_lens raised 0) (get_or codes raised 0)
    ≡ mode_bits (vertical raised)
unfolding modes mode_bits code_bits
one_vertical raised h = grind arith

one_fits : (raised : ℕ) → raised < 7 → get_or codes raised 0 < 2 ^ get_or code_lens raised 0
one_fits raised h = grind arith

all_fit : (biased_offsets : List ℕ) → are_near biased_offsets ≡ true
    → code_of biased_offsets < 2 ^ len_of biased_offsets
all_fit [] near = omega arith
all_fit (raised ∷ biased_offsets) near =
    let parts = and_parts (nat_lt raised 7) (are_near biased_offsets) near in
    omega (
      arith,
      mul-add-lt (get_or codes raised 0) (2 ^ len_of biased_offsets) (code_of biased_offsets) (2 ^ get_or code_lens
          raised 0)
          (one_fits raised (lt-from_test raised 7 parts.0)) (all_fit biased_offsets parts.1),
      pow-add 2 (get_or code_lens raised 0) (len_of biased_offsets),
    )

-- the codes together are their bits, one after another
all_spelled : (biased_offsets : List ℕ) → are_near biased_offsets ≡ true
    → code_bits (len_of biased_offsets) (code_of biased_offsets)
    ≡ flat_map (λ raised. mode_bits (vertical raised)) biased_offsets
unfolding code_bits
all_spelled [] near = refl
all_spelled (raised ∷ biased_offsets) near =
    let parts = and_parts (nat_lt raised 7) (are_near biased_offsets) near in
    code_bits-add (get_or code_lens raised 0) (len_of biased_offsets) (get_or codes raised 0) (code_of biased_offsets)
    (all_fit biased_offsets parts.1)
    ∙ ap (λ b. b ++ code_bits (len_of biased_offsets) (code_of biased_offsets)) (one_vertical raised (lt-from_test
    raised 7 parts.0))
    ∙ ap (λ b. mode_bits (vertical raised) ++ b) (all_spelled biased_offsets parts.1)

-- what the arrays say of a number of twelve bits
pub record IsSeveral (number len count : ℕ) (four : List ℕ) : Type 0 where
  pub some : 0 < count
  pub few : count ≤ 4
  pub lanes : length four ≡ 4
  pub all_near : are_near four ≡ true
  pub within : len ≤ 12
  pub near : are_near (take count four) ≡ true
  pub len_is : len ≡ len_of (take count four)
  pub spelled : number / 2 ^ (12 - len) ≡ code_of (take count four)

from_test : (number len count : ℕ) (four : List ℕ) → is_several number len count four ≡ true
    → IsSeveral number len count four
from_test number len count four is = grind arith

found : (number : ℕ) → number < 4096 → 0 < get_or VERTICALS.lens number 0
    → IsSeveral number (get_or VERTICALS.lens number 0) (get_or VERTICALS.counts number 0)
    (to_le_bytes w32 (get_or VERTICALS.biased_offsets number 0))
found number within some =
    let e : 0 + number ≡ number = zero-add number in
    from_test number _ _ _
    (subst (λ n. is_several n (get_or VERTICALS.lens number 0) (get_or VERTICALS.counts number 0)
    (to_le_bytes w32 (get_or VERTICALS.biased_offsets number 0)) ≡ true) e
    (vertical_at 0 VERTICALS.lens VERTICALS.counts VERTICALS.biased_offsets number verticals_are within some))

-- the modes whose codes begin thirteen bits
pub verticals_begin : (number : ℕ) → number < 2 ^ 13 → 0 < get_or VERTICALS.lens (number / 2) 0
    → IsBegun AreVerticals (code_bits 13 number) (get_or VERTICALS.lens (number / 2) 0)
    (record {
      count = get_or VERTICALS.counts (number / 2) 0;
      biased_offsets =
          to_le_bytes w32 (get_or VERTICALS.biased_offsets (number / 2) 0);
    })
verticals_begin number fits some = record {
  front = code_bits len (code_of biased_offsets);
  ahead = code_ahead 13 number len (code_of biased_offsets) (omega (arith, is.within)) (first ∙ is.spelled);
  long = length-code_bits len (code_of biased_offsets);
  some = some;
  meaning = record {
    few = record { some = is.some; few = is.few; lanes = is.lanes; near = near_from_test four is.all_near };
    spelled = ap (λ n. code_bits n (code_of biased_offsets)) is.len_is ∙ all_spelled biased_offsets is.near;
  };
}
  where
    len : ℕ
    len = get_or VERTICALS.lens (number / 2) 0

    four : List ℕ
    four = to_le_bytes w32 (get_or VERTICALS.biased_offsets (number / 2) 0)

    biased_offsets : List ℕ
    biased_offsets = take (get_or VERTICALS.counts (number / 2) 0) four

    is : IsSeveral (number / 2) len (get_or VERTICALS.counts (number / 2) 0)
        (to_le_bytes w32 (get_or VERTICALS.biased_offsets (number / 2) 0))
    is = found (number / 2) (omega arith) some

    first : number / 2 ^ (13 - len) ≡ number / 2 / 2 ^ (12 - len)
    first =
        let e : suc (12 - len) ≡ 13 - len = omega (arith, is.within) in
        ap (λ k. number / 2 ^ k) (sym e) ∙ ap (λ m. number / m) (pow-succ' 2 (12 - len))
        ∙ sym (div-div-eq-div-mul number 2 (2 ^ (12 - len)))

shift_is : (raised : ℕ) → raised < 7 → (negsuc 2 ≤ℤ shift raised) × (shift raised ≤ℤ pos 3)
shift_is raised near = (omega (arith, ints), omega (arith, ints))

-- they are these modes, one after another
all_read : (biased_offsets : List ℕ) (rest : List Bool) → All (λ raised. raised < 7) biased_offsets
    → DecodesAll modes (flat_map (λ raised. mode_bits (vertical raised)) biased_offsets
    ++ rest) (map vertical biased_offsets) rest
all_read [] rest near = refl
all_read (raised ∷ biased_offsets) rest near =
    let more = flat_map (λ raised. mode_bits (vertical raised)) biased_offsets ++ rest in (
      more,
      subst (λ b. Decodes modes b (vertical raised) more)
          (sym (append_assoc (mode_bits (vertical raised)) (flat_map (λ raised. mode_bits (vertical raised))
          biased_offsets)
          rest))
          (mode_bits_are_read (vertical raised) more (shift_is raised
          (All-head (λ raised. raised < 7) raised biased_offsets near))),
      all_read biased_offsets rest (All-tail (λ raised. raised < 7) raised biased_offsets near),
    )

pub verticals_taken : (front remaining : List Bool) (found : Verticals) (rest : List Bool) → AreVerticals front found
    → remaining ≡ front ++ rest
    → AreVerticalsRead remaining found rest
verticals_taken front remaining found rest are taken = grind (arith, common_steps, all_read)
