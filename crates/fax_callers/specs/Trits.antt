-- A small table of codes.
use Rattle.std.specs.Prelude.{◌≡◌, ℕ, List, [], ◌∷◌, true, map, codes, refl}
use Rattle.fax_bits.specs.declared.codes.CodeEntry.{CodeEntry}
use Rattle.fax_bits.specs.Bits.{code_bits}
use Rattle.fax_bits.specs.Codes.{bits_of}
use Rattle.fax_bits.specs.views.Codes.{HasShortCodes, IsPrefixFree}
use Rattle.fax_bits.specs.Tables.{entry}
use Rattle.fax_bits.specs.code.TableTests.{prefix_free_test, is_prefix_free, has_short_codes}

-- three codes, of one bit and of two
abbrev pub trits : List (CodeEntry ℕ)
trits = entry (codes "0") 0 ∷ entry (codes "10") 1 ∷ entry (codes "11") 2 ∷ []

pub trits_has_short_codes : HasShortCodes trits
trits_has_short_codes = has_short_codes trits refl

prefix_free_test-trits : prefix_free_test (map bits_of trits) ≡ true
unfolding code_bits
prefix_free_test-trits = refl

pub trits_is_prefix_free : IsPrefixFree trits
trits_is_prefix_free = is_prefix_free trits prefix_free_test-trits
