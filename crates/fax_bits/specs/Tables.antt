-- The code tables of ITU-T T.4, each code spelled as the standard prints it.
use Rattle.std.specs.Prelude.{ℕ, ◌+◌, ◌*◌, ◌-◌, ◌==◌, List, [], ◌∷◌, ◌++◌, length, fold, codes, pos}
use Rattle.std.specs.Prelude.{negsuc}
use Rattle.std.specs.List.{slice_split}
use Rattle.fax_bits.specs.Bits.{Colour, White, Black}
use Rattle.fax_bits.specs.declared.mode_codes.ModeCode.TheVariants as mode
use Rattle.fax_bits.specs.declared.run_codes.RunCode.TheVariants.{Terminating, MakeUp, Extension}
pub use Rattle.fax_bits.specs.declared.codes.CodeEntry.{CodeEntry}
pub use Rattle.fax_bits.specs.declared.mode_codes.ModeCode.{ModeCode}
pub use Rattle.fax_bits.specs.declared.run_codes.RunCode.{RunCode}

-- the code that these binary digits spell, the highest first, with its meaning (48 is the digit 0)
abbrev pub entry : {M : Type 0} → List ℕ → M → CodeEntry M
entry digits meaning =
    let code = fold (λ number digit. 2 * number + (digit - 48)) 0 digits in
    record { code = code; len = length digits; meaning = meaning }

-- the codes that a text spells, parted by single blanks
abbrev pub written : List ℕ → List (List ℕ)
written text = slice_split (λ character. character == 32) text

-- entries for these codes, whose meanings are at first, first + step, first + 2 * step and so on
abbrev pub in_steps : {M : Type 0} → (ℕ → M) → ℕ → ℕ → List (List ℕ) → List (CodeEntry M)
in_steps meaning first step [] = []
in_steps meaning first step (digits ∷ more) =
    entry digits (meaning first) ∷ in_steps meaning (first + step) step more

-- white runs of 0 to 63 (T.4, table 2)
unfoldable pub white_terminating : List (List ℕ)
white_terminating =
    written (codes "00110101 000111 0111 1000 1011 1100 1110 1111"
    ++ codes " 10011 10100 00111 01000 001000 000011 110100 110101"
    ++ codes " 101010 101011 0100111 0001100 0001000 0010111 0000011 0000100"
    ++ codes " 0101000 0101011 0010011 0100100 0011000 00000010 00000011 00011010"
    ++ codes " 00011011 00010010 00010011 00010100 00010101 00010110 00010111 00101000"
    ++ codes " 00101001 00101010 00101011 00101100 00101101 00000100 00000101 00001010"
    ++ codes " 00001011 01010010 01010011 01010100 01010101 00100100 00100101 01011000"
    ++ codes " 01011001 01011010 01011011 01001010 01001011 00110010 00110011 00110100")

-- black runs of 0 to 63 (T.4, table 2)
unfoldable pub black_terminating : List (List ℕ)
black_terminating =
    written (codes "0000110111 010 11 10 011 0011"
    ++ codes " 0010 00011 000101 000100 0000100 0000101"
    ++ codes " 0000111 00000100 00000111 000011000 0000010111 0000011000"
    ++ codes " 0000001000 00001100111 00001101000 00001101100 00000110111 00000101000"
    ++ codes " 00000010111 00000011000 000011001010 000011001011 000011001100 000011001101"
    ++ codes " 000001101000 000001101001 000001101010 000001101011 000011010010 000011010011"
    ++ codes " 000011010100 000011010101 000011010110 000011010111 000001101100 000001101101"
    ++ codes " 000011011010 000011011011 000001010100 000001010101 000001010110 000001010111"
    ++ codes " 000001100100 000001100101 000001010010 000001010011 000000100100 000000110111"
    ++ codes " 000000111000 000000100111 000000101000 000001011000 000001011001 000000101011"
    ++ codes " 000000101100 000001011010 000001100110 000001100111")

-- white runs of 64, 128, .. 1728 (T.4, table 3a)
unfoldable pub white_make_up : List (List ℕ)
white_make_up =
    written (codes "11011 10010 010111 0110111 00110110 00110111 01100100 01100101"
    ++ codes " 01101000 01100111 011001100 011001101 011010010 011010011 011010100 011010101"
    ++ codes " 011010110 011010111 011011000 011011001 011011010 011011011 010011000 010011001"
    ++ codes " 010011010 011000 010011011")

-- black runs of 64, 128, .. 1728 (T.4, table 3a)
unfoldable pub black_make_up : List (List ℕ)
black_make_up =
    written (codes "0000001111 000011001000 000011001001 000001011011 000000110011 000000110100"
    ++ codes " 000000110101 0000001101100 0000001101101 0000001001010 0000001001011 0000001001100"
    ++ codes " 0000001001101 0000001110010 0000001110011 0000001110100 0000001110101 0000001110110"
    ++ codes " 0000001110111 0000001010010 0000001010011 0000001010100 0000001010101 0000001011010"
    ++ codes " 0000001011011 0000001100100 0000001100101")

-- runs of either colour of 1792, 1856, .. 2560 (T.4, table 3b)
unfoldable pub common_make_up : List (List ℕ)
common_make_up =
    written (codes "00000001000 00000001100 00000001101 000000010010 000000010011 000000010100"
    ++ codes " 000000010101 000000010110 000000010111 000000011100 000000011101 000000011110"
    ++ codes " 000000011111")

-- the codes of runs: terminating codes, make-up codes, those of either colour, and the prefix of
-- extensions, 000000001xxx (T.4, tables 2, 3a, 3b and 4)
abbrev pub with_common : List (List ℕ) → List (List ℕ) → List (CodeEntry RunCode)
with_common terminating make_up =
    in_steps Terminating 0 1 terminating ++ in_steps MakeUp 64 64 make_up
    ++ in_steps MakeUp 1792 64 common_make_up ++ entry (codes "000000001") Extension ∷ []

-- the codes of white runs, and of black ones (T.4, tables 2, 3a and 3b)
unfoldable pub white_runs : List (CodeEntry RunCode)
white_runs = with_common white_terminating white_make_up

unfoldable pub black_runs : List (CodeEntry RunCode)
black_runs = with_common black_terminating black_make_up

-- the codes of runs of a colour (T.4, tables 2, 3a and 3b)
abbrev pub run_table : Colour → List (CodeEntry RunCode)
run_table White = white_runs
run_table Black = black_runs

-- the codes of modes (T.4, table 4), where Vertical d says that a1 is b1 + d
unfoldable pub modes : List (CodeEntry ModeCode)
modes =
    entry (codes "0001") mode.Pass
    ∷ entry (codes "001") mode.Horizontal
    ∷ entry (codes "1") (mode.Vertical (pos 0))
    ∷ entry (codes "011") (mode.Vertical (pos 1))
    ∷ entry (codes "000011") (mode.Vertical (pos 2))
    ∷ entry (codes "0000011") (mode.Vertical (pos 3))
    ∷ entry (codes "010") (mode.Vertical (negsuc 0))
    ∷ entry (codes "000010") (mode.Vertical (negsuc 1))
    ∷ entry (codes "0000010") (mode.Vertical (negsuc 2))
    ∷ entry (codes "0000001") mode.Extension
    ∷ []
