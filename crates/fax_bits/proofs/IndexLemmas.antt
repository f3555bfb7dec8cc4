-- The index arrays hold the indexes of the code tables.
use Rattle.std.proofs.lemmas.Grind.{common_steps}
use Rattle.std.proofs.Common.{◌≡◌, ℕ, ◌+◌, ◌-◌, ◌/◌, ◌^◌, ◌<◌, ◌≤◌, List, map, get_or, true, refl, sym, ◌∙◌, subst}
use Rattle.std.proofs.Common.{arith}
use Rattle.std.specs.List.{range_with_len}
use Rattle.std.proofs.lemmas.List.FromFn.{get_or-map-range_with_len}
use Rattle.std.proofs.lemmas.Nat.{shr_below}
use Rattle.fax_bits.specs.declared.codes.CodeEntry.{CodeEntry}
use Rattle.fax_bits.specs.declared.indexes.TheConstants.{WHITE_SHORT, WHITE_LONG, BLACK_SHORT, BLACK_LONG, MODE_INDEXES}
use Rattle.fax_bits.specs.code.CodeIndexes.{index_of}
use Rattle.fax_bits.proofs.TableIndexLemmas.{long_codes_test, short_index}
use Rattle.fax_bits.specs.Tables.{modes, white_runs, white_terminating, white_make_up, black_runs, black_terminating}
use Rattle.fax_bits.specs.Tables.{black_make_up}
use Rattle.fax_bits.specs.Tables.{common_make_up}

-- the indexes for the first numbers of so many bits
abbrev pub indexes : {M : Type 0} → List (CodeEntry M) → ℕ → ℕ → List ℕ
indexes table width count = map (index_of table width) (range_with_len 0 count)

white_short_is : WHITE_SHORT ≡ indexes white_runs 9 512
unfolding white_runs white_terminating white_make_up common_make_up
white_short_is = refl

white_long_is : WHITE_LONG ≡ indexes white_runs 13 64
unfolding white_runs white_terminating white_make_up common_make_up
white_long_is = refl

black_short_is : BLACK_SHORT ≡ indexes black_runs 6 64
unfolding black_runs black_terminating black_make_up common_make_up
black_short_is = refl

black_long_is : BLACK_LONG ≡ indexes black_runs 13 512
unfolding black_runs black_terminating black_make_up common_make_up
black_long_is = refl

mode_indexes_is : MODE_INDEXES ≡ indexes modes 7 128
unfolding modes
mode_indexes_is = refl

index_at : {M : Type 0} (array : List ℕ) (table : List (CodeEntry M)) (width count number : ℕ)
    → array ≡ indexes table width count
    → number < count
    → get_or array number 0 ≡ index_of table width number
index_at array table width count number is within = grind (arith, get_or-map-range_with_len)

-- in an array of the short codes, for a number of 13 bits
short_index_at : {M : Type 0} (array : List ℕ) (table : List (CodeEntry M)) (short low number : ℕ)
    → array ≡ indexes table short (2 ^ short)
    → short ≤ 13 → long_codes_test short low table ≡ true → number < 2 ^ 13 → low ≤ number
    → get_or array (number / 2 ^ (13 - short)) 0 ≡ index_of table 13 number
short_index_at array table short low number is few test within above =
    let e : short + (13 - short) ≡ 13 = omega arith in
    let small : number / 2 ^ (13 - short) < 2 ^ short = shr_below number short (13 - short)
    (subst (λ k. number < 2 ^ k) (sym e) within) in
    index_at array table short (2 ^ short) (number / 2 ^ (13 - short)) is small
    ∙ short_index table short low number few test above

white_long_codes : long_codes_test 9 64 white_runs ≡ true
unfolding white_runs white_terminating white_make_up common_make_up
white_long_codes = refl

black_long_codes : long_codes_test 6 512 black_runs ≡ true
unfolding black_runs black_terminating black_make_up common_make_up
black_long_codes = refl

mode_long_codes : long_codes_test 7 0 modes ≡ true
unfolding modes
mode_long_codes = refl

pub white_index : (number : ℕ) → 64 ≤ number → number < 2 ^ 13
    → get_or WHITE_SHORT (number / 2 ^ 4) 0 ≡ index_of white_runs 13 number
white_index number above within =
    short_index_at WHITE_SHORT white_runs 9 64 number white_short_is (omega arith) white_long_codes within above

pub white_long_index : (number : ℕ) → number < 64 → get_or WHITE_LONG number 0 ≡ index_of white_runs 13 number
white_long_index number below = index_at WHITE_LONG white_runs 13 64 number white_long_is below

pub black_index : (number : ℕ) → 512 ≤ number → number < 2 ^ 13
    → get_or BLACK_SHORT (number / 2 ^ 7) 0 ≡ index_of black_runs 13 number
black_index number above within =
    short_index_at BLACK_SHORT black_runs 6 512 number black_short_is (omega arith) black_long_codes within above

pub black_long_index : (number : ℕ) → number < 512 → get_or BLACK_LONG number 0 ≡ index_of black_runs 13 number
black_long_index number below = index_at BLACK_LONG black_runs 13 512 number black_long_is below

pub mode_index : (number : ℕ) → number < 2 ^ 13 → get_or MODE_INDEXES (number / 2 ^ 6) 0 ≡ index_of modes 13 number
mode_index number within = short_index_at MODE_INDEXES modes 7 0 number mode_indexes_is (omega arith) mode_long_codes
    within (omega arith)

pub white_short_index : (number : ℕ) → number < 2 ^ 13 → get_or WHITE_SHORT (number / 2 ^ 4) 0 < 104
    → get_or WHITE_SHORT (number / 2 ^ 4) 0 ≡ index_of white_runs 13 number
white_short_index number within few = grind (arith, common_steps, white_index)

pub black_short_index : (number : ℕ) → number < 2 ^ 13 → get_or BLACK_SHORT (number / 2 ^ 7) 0 < 104
    → get_or BLACK_SHORT (number / 2 ^ 7) 0 ≡ index_of black_runs 13 number
black_short_index number within few = grind (arith, common_steps, black_index)
