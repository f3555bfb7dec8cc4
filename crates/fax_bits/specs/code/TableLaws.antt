-- The rules that the run tables and the mode table keep, by computation.
use Rattle.std.specs.Prelude.{◌≡◌, true, map, length, refl}
use Rattle.fax_bits.specs.declared.Colour.{Colour}
use Rattle.fax_bits.specs.declared.Colour.TheVariants.{White, Black}
use Rattle.fax_bits.specs.Bits.{code_bits}
use Rattle.fax_bits.specs.Codes.{bits_of}
use Rattle.fax_bits.specs.views.Codes.{HasShortCodes, IsPrefixFree}
use Rattle.fax_bits.specs.Tables.{run_table, modes, white_runs, white_terminating, white_make_up}
use Rattle.fax_bits.specs.Tables.{black_runs, black_terminating, black_make_up, common_make_up}
use Rattle.fax_bits.specs.code.TableTests.{prefix_free_test, short_codes_test, is_prefix_free}
use Rattle.fax_bits.specs.code.TableTests.{has_short_codes}

prefix_free_test-run_table : (colour : Colour) → prefix_free_test (map bits_of (run_table colour))
    ≡ true
unfolding code_bits white_runs black_runs white_terminating black_terminating
    white_make_up black_make_up common_make_up
prefix_free_test-run_table White = refl
prefix_free_test-run_table Black = refl

short_codes_test-run_table : (colour : Colour) → short_codes_test (run_table colour) ≡ true
unfolding white_runs black_runs white_terminating black_terminating white_make_up
    black_make_up common_make_up
short_codes_test-run_table White = refl
short_codes_test-run_table Black = refl

pub run_table_is_prefix_free : (colour : Colour) → IsPrefixFree (run_table colour)
run_table_is_prefix_free colour =
    is_prefix_free (run_table colour) (prefix_free_test-run_table colour)

pub run_table_has_short_codes : (colour : Colour) → HasShortCodes (run_table colour)
run_table_has_short_codes colour =
    has_short_codes (run_table colour) (short_codes_test-run_table colour)

prefix_free_test-modes : prefix_free_test (map bits_of modes) ≡ true
unfolding code_bits modes
prefix_free_test-modes = refl

short_codes_test-modes : short_codes_test modes ≡ true
unfolding modes
short_codes_test-modes = refl

pub modes_is_prefix_free : IsPrefixFree modes
modes_is_prefix_free = is_prefix_free modes prefix_free_test-modes

pub modes_has_short_codes : HasShortCodes modes
modes_has_short_codes = has_short_codes modes short_codes_test-modes

pub length-run_table : (colour : Colour) → length (run_table colour) ≡ 105
unfolding white_runs black_runs white_terminating black_terminating white_make_up
    black_make_up common_make_up
length-run_table White = refl
length-run_table Black = refl

pub length-modes : length modes ≡ 10
unfolding modes
length-modes = refl
