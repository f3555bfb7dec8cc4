-- The arrays of the pairs hold two codes each: a white terminating code and a black one after it.
use Rattle.std.proofs.lemmas.Grind.{common_steps}
use Rattle.std.proofs.Common.{◌≡◌, ℕ, zero, suc, ◌+◌, ◌-◌, ◌*◌, ◌/◌, ◌%◌, ◌^◌, ◌<◌, ◌≤◌, List, [], ◌∷◌, ◌++◌, map}
use Rattle.std.proofs.Common.{length, get_or, Bool, true, false}
use Rattle.std.proofs.Common.{if◌then◌else◌, refl, ap, sym, ◌∙◌, subst, arith, zero-add}
use Rattle.std.specs.Prelude.{◌&&◌, nat_lt, nat_le, nat_eq}
use Rattle.std.proofs.lemmas.Bool.{and_parts}
use Rattle.std.proofs.lemmas.List.FromFn.{get_or-map-range_with_len}
use Rattle.std.proofs.lemmas.Nat.{pow-add}
use Rattle.std.proofs.Math.Nat.{div-div-eq-div-mul, pow-succ'}
use Rattle.std.specs.List.{range_with_len}
use Rattle.fax_bits.specs.declared.Colour.{Colour}
use Rattle.fax_bits.specs.declared.Colour.TheVariants.{White, Black}
use Rattle.fax_bits.specs.declared.indexes.TheConstants.{PAIRS, WHITE_PAIR_CODES, WHITE_PAIR_LENS, BLACK_PAIR_CODES}
use Rattle.fax_bits.specs.declared.indexes.TheConstants.{BLACK_PAIR_LENS}
use Rattle.fax_bits.specs.declared.run_codes.TheConstants.{WHITE_CODES, WHITE_LENS, BLACK_CODES, BLACK_LENS}
use Rattle.fax_bits.specs.Bits.{code_bits}
use Rattle.fax_bits.specs.Tables.{run_table}
use Rattle.fax_bits.specs.Written.{run_bits, run_code_bits}
use Rattle.fax_bits.specs.code.Pairs.{IsPairAhead}
use Rattle.fax_bits.specs.code.TableLaws.{run_table_has_short_codes}
use Rattle.fax_bits.specs.views.Pairs.{pair_bits}
use Rattle.fax_bits.proofs.ArrayLemmas.{codes_of, lens_of, run_entry_at}
use Rattle.fax_bits.proofs.CodeBitsLemmas.{code_bits-add}
use Rattle.fax_bits.proofs.FindLemmas.{code_ahead}
use Rattle.fax_bits.proofs.PutLemmas.{short_bits}
use Rattle.fax_bits.proofs.RunCodeLemmas.{bits_at-found, bits_at-run_table, run_meaning-terminating}
use Rattle.fax_bits.proofs.TableLemmas.{listed}

-- the first bits of the twelve that a number spells are the codes of the two runs
abbrev spells_pair : ℕ → ℕ → ℕ → ℕ → Bool
spells_pair number white black len =
    nat_eq (number / 2 ^ (12 - len)) (get_or WHITE_CODES white 0 * 2 ^ get_or BLACK_LENS black 0 + get_or BLACK_CODES
    black 0)

-- of a white run and a black one, both of pels and of one code, and the length of both codes
abbrev is_pair : ℕ → ℕ → ℕ → ℕ → Bool
is_pair number white black len =
    nat_lt 0 white && (nat_lt 0 black && (nat_lt white 64 && (nat_lt black 64 && (nat_le len 12
    && (nat_eq len (get_or WHITE_LENS white 0 + get_or BLACK_LENS black 0) && spells_pair number white black len)))))

-- those of each number from this one on are, where they have a length
abbrev are_pairs : ℕ → List ℕ → List ℕ → List ℕ → Bool
are_pairs number whites blacks [] = true
are_pairs number [] blacks (len ∷ lens) = false
are_pairs number (white ∷ whites) [] (len ∷ lens) = false
are_pairs number (white ∷ whites) (black ∷ blacks) (len ∷ lens) =
    (if nat_eq len 0 then true else is_pair number white black len) && are_pairs (suc number) whites blacks lens

pairs_are : are_pairs 0 PAIRS.whites PAIRS.blacks PAIRS.lens ≡ true
pairs_are = refl

pair_at : (number : ℕ) (whites blacks lens : List ℕ) (i : ℕ) → are_pairs number whites blacks lens ≡ true
    → i < length lens
    → 0 < get_or lens i 0 → is_pair (number + i) (get_or whites i 0) (get_or blacks i 0) (get_or lens i 0) ≡ true
pair_at number whites blacks [] i are within some = absurd (omega arith)
pair_at number [] blacks (len ∷ lens) i are within some = cc
pair_at number (white ∷ whites) [] (len ∷ lens) i are within some = cc
pair_at number (white ∷ whites) (black ∷ blacks) (len ∷ lens) zero are within some = grind (arith, common_steps)
pair_at number (white ∷ whites) (black ∷ blacks) (len ∷ lens) (suc i) are within some =
    let e : number + suc i ≡ suc number + i = omega arith in
    rw e (pair_at (suc number) whites blacks lens i
    (and_parts (if nat_eq len 0 then true else is_pair number white black len) _ are).1 (omega arith) some)

-- what the arrays say of the bits that a number spells
pub record IsPair (number white black len : ℕ) : Type 0 where
  pub white_some : 0 < white
  pub black_some : 0 < black
  pub white_short : white < 64
  pub black_short : black < 64
  pub within : len ≤ 12
  pub len_is : len ≡ get_or WHITE_LENS white 0 + get_or BLACK_LENS black 0
  pub spelled : number / 2 ^ (12 - len) ≡ get_or WHITE_CODES white 0 * 2 ^ get_or BLACK_LENS black 0 + get_or
      BLACK_CODES black 0

from_test : (number white black len : ℕ) → is_pair number white black len ≡ true → IsPair number white black len
from_test number white black len is = grind (arith, common_steps)

pub found : (number : ℕ) → number < 4096 → 0 < get_or PAIRS.lens number 0
    → IsPair number (get_or PAIRS.whites number 0) (get_or PAIRS.blacks number 0) (get_or PAIRS.lens number 0)
found number within some =
    let e : 0 + number ≡ number = zero-add number in
    from_test number _ _ _
    (subst (λ n. is_pair n (get_or PAIRS.whites number 0) (get_or PAIRS.blacks number 0) (get_or PAIRS.lens number 0)
    ≡ true) e
    (pair_at 0 PAIRS.whites PAIRS.blacks PAIRS.lens number pairs_are within some))

-- the code of a run of fewer than 64 pels, and its length
abbrev IsShortCode : Colour → ℕ → ℕ → ℕ → Type 0
IsShortCode colour n code len = (len ≤ 13) × (code < 2 ^ len) × (code_bits len code ≡ run_bits colour n)

short_code : (colour : Colour) (n : ℕ) → n < 64 → IsShortCode colour n (get_or (codes_of colour) n 0)
    (get_or (lens_of colour) n 0)
short_code colour n short =
    let table = run_table colour in
    let found = run_entry_at colour n (omega arith) in
    let is = run_table_has_short_codes colour _ (listed table n _ found) in
    let bits = sym (bits_at-found table n _ found) ∙ bits_at-run_table colour n (omega arith)
    ∙ ap (run_code_bits colour) (run_meaning-terminating n short) ∙ short_bits colour n short in
    (is.1, is.2, bits)

-- the two codes begin thirteen bits
pub pair_is_ahead : (number : ℕ) → number < 2 ^ 13 → 0 < get_or PAIRS.lens (number / 2) 0
    → IsPairAhead (code_bits 13 number) (get_or PAIRS.lens (number / 2) 0)
    (record { white = get_or PAIRS.whites (number / 2) 0; black = get_or PAIRS.blacks (number / 2) 0 })
pair_is_ahead number fits some = record {
  white = is.white_some;
  black = is.black_some;
  short_white = is.white_short;
  short_black = is.black_short;
  some = some;
  code = code;
  ahead = code_ahead 13 number len code (omega (arith, is.within)) (first ∙ is.spelled);
  spelled =
      ap (λ n. code_bits n code) is.len_is
      ∙ code_bits-add (get_or WHITE_LENS white 0) (get_or BLACK_LENS black 0) (get_or WHITE_CODES white 0)
      (get_or BLACK_CODES black 0)
      (short_code Black black is.black_short).1
      ∙ ap (λ b. b ++ code_bits (get_or BLACK_LENS black 0) (get_or BLACK_CODES black 0))
      (short_code White white is.white_short).2
      ∙ ap (λ b. run_bits White white ++ b) (short_code Black black is.black_short).2;
}
  where
    len : ℕ
    len = get_or PAIRS.lens (number / 2) 0

    white : ℕ
    white = get_or PAIRS.whites (number / 2) 0

    black : ℕ
    black = get_or PAIRS.blacks (number / 2) 0

    is : IsPair (number / 2) white black len
    is = found (number / 2) (omega arith) some

    code : ℕ
    code = get_or WHITE_CODES white 0 * 2 ^ get_or BLACK_LENS black 0 + get_or BLACK_CODES black 0

    first : number / 2 ^ (13 - len) ≡ number / 2 / 2 ^ (12 - len)
    first =
        let e : suc (12 - len) ≡ 13 - len = omega (arith, is.within) in
        ap (λ k. number / 2 ^ k) (sym e) ∙ ap (λ m. number / m) (pow-succ' 2 (12 - len))
        ∙ sym (div-div-eq-div-mul number 2 (2 ^ (12 - len)))

-- the codes of two short runs together, and their length, by 16 times the one and the other
abbrev pair_code : List ℕ → List ℕ → List ℕ → ℕ → ℕ
pair_code codes others lens at = get_or codes (at / 16) 0 * 2 ^ get_or lens (at % 16) 0 + get_or others (at % 16) 0

abbrev pair_len : List ℕ → List ℕ → ℕ → ℕ
pair_len lens others at = get_or lens (at / 16) 0 + get_or others (at % 16) 0

-- the other colour, and the arrays for pairs that a run of a colour begins
abbrev other : Colour → Colour
other White = Black
other Black = White

abbrev pub pair_codes_of : Colour → List ℕ
pair_codes_of White = WHITE_PAIR_CODES
pair_codes_of Black = BLACK_PAIR_CODES

abbrev pub pair_lens_of : Colour → List ℕ
pair_lens_of White = WHITE_PAIR_LENS
pair_lens_of Black = BLACK_PAIR_LENS

-- the codes of a colour, those of the other, and their lengths
abbrev pair_code_of : Colour → ℕ → ℕ
pair_code_of colour = pair_code (codes_of colour) (codes_of (other colour)) (lens_of (other colour))

abbrev pair_len_of : Colour → ℕ → ℕ
pair_len_of colour = pair_len (lens_of colour) (lens_of (other colour))

pair_codes_are : (colour : Colour) → pair_codes_of colour ≡ map (pair_code_of colour) (range_with_len 0 256)
pair_codes_are White = refl
pair_codes_are Black = refl

pair_lens_are : (colour : Colour) → pair_lens_of colour ≡ map (pair_len_of colour) (range_with_len 0 256)
pair_lens_are White = refl
pair_lens_are Black = refl

pair_bits_are : (colour : Colour) (first second : ℕ)
    → pair_bits colour first second ≡ run_bits colour first ++ run_bits (other colour) second
pair_bits_are White first second = refl
pair_bits_are Black first second = refl

-- an array of them at two runs
at_pair : (array : List ℕ) (f : ℕ → ℕ) (first second : ℕ) → array ≡ map f (range_with_len 0 256) → first < 16
    → second < 16
    → get_or array (first * 16 + second) 0 ≡ f (first * 16 + second)
at_pair array f first second is short other_short =
    ap (λ xs. get_or xs (first * 16 + second) 0) is
    ∙ get_or-map-range_with_len f 0 256 (first * 16 + second) (first * 16 + second) 0 (omega arith) (omega arith)

-- two codes together
pub record IsPairCode (code len : ℕ) (bits : List Bool) : Type 0 where
  pub bits_are : code_bits len code ≡ bits
  pub fits : code < 2 ^ len
  pub short : len ≤ 32

two_codes : (one other : Colour) (first second code len code' len' : ℕ) → IsShortCode one first code len
    → IsShortCode other second code' len'
    → IsPairCode (code * 2 ^ len' + code') (len + len') (run_bits one first ++ run_bits other second)
two_codes one other first second code len code' len' is is' = grind (arith, code_bits-add, pow-add)

high_of : (first second : ℕ) → second < 16 → (first * 16 + second) / 16 ≡ first
high_of first second short = omega arith

low_of : (first second : ℕ) → second < 16 → (first * 16 + second) % 16 ≡ second
low_of first second short = omega arith

-- what is looked up for two short runs
pub short_pair : (colour : Colour) (first second : ℕ) → first < 16 → second < 16
    → IsPairCode (get_or (pair_codes_of colour) (first * 16 + second) 0)
    (get_or (pair_lens_of colour) (first * 16 + second) 0)
    (pair_bits colour first second)
short_pair colour first second short short' =
    rw (
      at_pair (pair_codes_of colour) (pair_code_of colour) first second (pair_codes_are colour) short short',
      at_pair (pair_lens_of colour) (pair_len_of colour) first second (pair_lens_are colour) short short',
      high_of first second short',
      low_of first second short',
      pair_bits_are colour first second,
    )
    (two_codes colour (other colour) first second _ _ _ _ (short_code colour first (omega arith))
    (short_code (other colour) second (omega arith)))
