-- Worked strips, and what the functions read of them. Each answer was worked out by T.4 and T.6, so
-- a wrong definition is an example that does not hold. Bits are spelled code by code, with blanks
-- between the codes, and pels as W and B.
use Rattle.std.specs.Prelude.{◌≡◌, ℕ, ◌+◌, ◌==◌, if◌then◌else◌, Bool, false, List, [], ◌∷◌, ◌++◌}
use Rattle.std.specs.Prelude.{length, map, replicate, codes, Option, Some, None}
use Rattle.fax_bits.specs.declared.Colour.{Colour}
use Rattle.fax_bits.specs.declared.Colour.TheVariants.{White, Black}
use Rattle.fax_bits.specs.declared.FillOrder.{FillOrder}
use Rattle.fax_bits.specs.declared.FillOrder.TheVariants.{MsbFirst, LsbFirst}
use Rattle.fax_bits.specs.Bits.{bits}
use Rattle.fax_page.specs.declared.Coding.{Coding}
use Rattle.fax_page.specs.declared.Coding.TheVariants.{Mh, Mr, Mmr}
use Rattle.fax_page.specs.declared.RowsEnd.{RowsEnd}
use Rattle.fax_page.specs.declared.RowsEnd.TheVariants.{Marked, DataEnd, Fault, TooMany}
use Rattle.fax_page.specs.declared.StripFault.{StripFault}
use Rattle.fax_page.specs.declared.StripFault.TheVariants.{DataEnds, BadCode, Extension, RunTooLong}
use Rattle.fax_page.specs.declared.StripFault.TheVariants.{OutOfRow, MissingEol, EndMarker}
use Rattle.fax_page.specs.declared.StripForm.{StripForm}
use Rattle.fax_page.specs.Strip.{most_rows}
use Rattle.fax_page.specs.Strip.{StripRead, read_strip}
use Rattle.fax_page.specs.Uncounted.{rows_end}

-- the bits that a text spells, without its blanks (32), where 49 is the digit 1
abbrev pub spelled : List ℕ → List Bool
spelled [] = []
spelled (character ∷ text) =
    if character == 32 then spelled text else (character == 49) ∷ spelled text

-- the pels that a text spells, where 66 is the letter B
abbrev pub pels : List ℕ → List Colour
pels text = map (λ letter. if letter == 66 then Black else White) text

-- a strip of so many rows of so many pels
abbrev pub form : Coding → ℕ → ℕ → StripForm
form coding width rows = record {
  coding = coding;
  order = MsbFirst;
  width = width;
  rows = rows;
  aligned = false;
}

-- what is read of a strip: these rows, this end, and these bits that are left
abbrev pub reading : List (List ℕ) → Option StripFault → List ℕ → StripRead
reading rows end remaining = record {
  rows = map pels rows;
  end = end;
  remaining = spelled remaining;
}

-- a strip of so many rows of 8 pels has all of them, and these bits are left
abbrev pub Has : Coding → List ℕ → List (List ℕ) → List ℕ → Type 0
Has coding text rows remaining =
    read_strip (form coding 8 (length rows)) (spelled text) ≡ reading rows None remaining

-- a strip of 8 pels has these rows, and this fault is in the way of one more, which is expected at
-- these bits
abbrev pub Stops : Coding → List ℕ → List (List ℕ) → StripFault → List ℕ → Type 0
Stops coding text rows fault remaining =
    read_strip (form coding 8 (length rows + 1)) (spelled text)
    ≡ reading rows (Some fault) remaining

-- the bytes of a strip of 8 pels, whose bits are in this order, have these rows, and these bits are
-- left
abbrev pub HasBytes : Coding → FillOrder → List ℕ → List (List ℕ) → List ℕ → Type 0
HasBytes coding order bytes rows remaining =
    read_strip (form coding 8 (length rows)) (bits order bytes) ≡ reading rows None remaining

-- the bits are one row in MH of so many pels of one colour, and no more
abbrev pub IsLongRun : ℕ → List ℕ → Colour → Type 0
IsLongRun width text colour =
    read_strip (form Mh width 1) (spelled text)
    ≡ record { rows = replicate width colour ∷ []; end = None; remaining = [] }

-- how many rows of 8 pels of unknown number these bits have, and how they end
abbrev pub ending : Coding → List ℕ → ℕ × RowsEnd
ending coding text =
    let read = read_strip (form coding 8 most_rows) (spelled text) in
    (length read.rows, rows_end coding (length read.rows) read.remaining read.end)

-- they are so many, and end so
abbrev pub Ends : Coding → List ℕ → ℕ → RowsEnd → Type 0
Ends coding text rows end = ending coding text ≡ (rows, end)

-- each fault of a strip in MH
pub record AreFaultsOfMh : Type 0 where
  pub no_bits : Stops Mh [] [] DataEnds []
  pub no_second_row : Stops Mh (codes "1000 11 1000 000000") (codes "WWWBBWWW" ∷ []) DataEnds
      (codes "000000")
  pub code_is_cut : Stops Mh (codes "1000 1") [] DataEnds (codes "1000 1")
  pub run_is_cut : Stops Mh (codes "1000 11") [] DataEnds (codes "1000 11")
  pub ten_zeros_after_eol : Stops Mh (codes "000000000001 0000000000") [] DataEnds
      (codes "000000000001 0000000000")
  pub no_code : Stops Mh (codes "0000000001") [] BadCode (codes "0000000001")
  pub no_black_code : Stops Mh (codes "1000 0000000001") [] BadCode (codes "1000 0000000001")
  pub extension : Stops Mh (codes "000000001") [] Extension (codes "000000001")
  pub black_extension : Stops Mh (codes "1000 000000001") [] Extension (codes "1000 000000001")
  pub nine_white : Stops Mh (codes "10100") [] RunTooLong (codes "10100")
  pub black_past_the_width : Stops Mh (codes "1000 0010") [] RunTooLong (codes "1000 0010")
  pub make_up_code_past_the_width : Stops Mh (codes "11011") [] RunTooLong (codes "11011")
  pub second_row_without_eol : Stops Mh (codes "10011 10011") (codes "WWWWWWWW" ∷ []) MissingEol
      (codes "10011")
  pub ten_zeros_and_a_one : Stops Mh (codes "10011 00000000001 10011") (codes "WWWWWWWW" ∷ [])
      MissingEol (codes "00000000001 10011")
  pub two_eols : Stops Mh (codes "000000000001 000000000001") [] EndMarker
      (codes "000000000001 000000000001")
  pub eleven_zeros_after_eol : Stops Mh (codes "000000000001 00000000000") [] EndMarker
      (codes "000000000001 00000000000")

-- each fault of a strip in MR, where a tag bit follows each EOL
pub record AreFaultsOfMr : Type 0 where
  pub no_one : Stops Mr (codes "0000") [] DataEnds (codes "0000")
  pub no_tag_bit : Stops Mr (codes "000000000001") [] DataEnds (codes "000000000001")
  pub no_first_code : Stops Mr (codes "000000000001 0") [] DataEnds (codes "000000000001 0")
  pub no_second_run : Stops Mr (codes "000000000001 0 001 1000") [] DataEnds
      (codes "000000000001 0 001 1000")
  pub no_run : Stops Mr (codes "000000000001 1 0000000001") [] BadCode
      (codes "000000000001 1 0000000001")
  pub no_mode : Stops Mr (codes "000000000001 0 00000001") [] BadCode
      (codes "000000000001 0 00000001")
  pub extension_of_runs : Stops Mr (codes "000000000001 1 000000001") [] Extension
      (codes "000000000001 1 000000001")
  pub extension_of_modes : Stops Mr (codes "000000000001 0 0000001") [] Extension
      (codes "000000000001 0 0000001")
  pub nine_white : Stops Mr (codes "000000000001 1 10100") [] RunTooLong
      (codes "000000000001 1 10100")
  pub nine_white_in_horizontal_mode : Stops Mr (codes "000000000001 0 001 10100") [] RunTooLong
      (codes "000000000001 0 001 10100")
  pub right_of_the_row : Stops Mr (codes "000000000001 0 011") [] OutOfRow
      (codes "000000000001 0 011")
  pub first_row_without_eol : Stops Mr (codes "1 10011") [] MissingEol (codes "1 10011")
  pub two_eols : Stops Mr (codes "000000000001 1 000000000001 1") [] EndMarker
      (codes "000000000001 1 000000000001 1")
  pub two_eols_in_two_dimensions : Stops Mr (codes "000000000001 0 000000000001 1") [] EndMarker
      (codes "000000000001 0 000000000001 1")

-- each fault of a strip in MMR
pub record AreFaultsOfMmr : Type 0 where
  pub no_bits : Stops Mmr [] [] DataEnds []
  pub ten_zeros : Stops Mmr (codes "0000000000") [] DataEnds (codes "0000000000")
  pub mode_is_cut : Stops Mmr (codes "1 1 000001") (codes "WWWWWWWW" ∷ codes "WWWWWWWW" ∷ [])
      DataEnds (codes "000001")
  pub no_second_run : Stops Mmr (codes "001 1000") [] DataEnds (codes "001 1000")
  pub no_mode : Stops Mmr (codes "00000001") [] BadCode (codes "00000001")
  pub no_white_run : Stops Mmr (codes "001 0000000001") [] BadCode (codes "001 0000000001")
  pub extension_of_modes : Stops Mmr (codes "0000001") [] Extension (codes "0000001")
  pub extension_of_runs : Stops Mmr (codes "001 000000001") [] Extension (codes "001 000000001")
  pub nine_white : Stops Mmr (codes "001 10100") [] RunTooLong (codes "001 10100")
  pub second_run_past_the_width : Stops Mmr (codes "001 1000 0010") [] RunTooLong
      (codes "001 1000 0010")
  pub right_of_the_row : Stops Mmr (codes "011") [] OutOfRow (codes "011")
  pub left_of_the_row : Stops Mmr (codes "001 00110101 000101 010") (codes "BBBBBBBB" ∷ []) OutOfRow
      (codes "010")
  pub at_a0_again : Stops Mmr (codes "001 1000 11 1 1 000010") (codes "WWWBBWWW" ∷ []) OutOfRow
      (codes "1 000010")
  pub two_eols : Stops Mmr (codes "000000000001 000000000001") [] EndMarker
      (codes "000000000001 000000000001")
  pub eleven_zeros : Stops Mmr (codes "00000000000") [] EndMarker (codes "00000000000")
  pub block_after_a_row : Stops Mmr (codes "1 000000000001 000000000001") (codes "WWWWWWWW" ∷ [])
      EndMarker (codes "000000000001 000000000001")

-- whole strips in MH
pub record AreStripsOfMh : Type 0 where
  pub eol : Has Mh (codes "000000000001 1000 11 1000") (codes "WWWBBWWW" ∷ []) []
  pub no_first_eol : Has Mh (codes "1000 11 1000") (codes "WWWBBWWW" ∷ []) []
  pub begins_black : Has Mh (codes "00110101 000101") (codes "BBBBBBBB" ∷ []) []
  pub fill : Has Mh (codes "1000 11 1000 00000 000000000001 10011")
      (codes "WWWBBWWW" ∷ codes "WWWWWWWW" ∷ []) []
  pub fill_at_the_beginning : Has Mh (codes "0000 000000000001 10011") (codes "WWWWWWWW" ∷ []) []
  pub run_of_0_inside : Has Mh (codes "1000 0000110111 1100") (codes "WWWWWWWW" ∷ []) []
  pub return_to_control_is_left : Has Mh
      (codes "000000000001 10011 000000000001 000000000001 000000000001")
      (codes "WWWWWWWW" ∷ []) (codes "000000000001 000000000001 000000000001")
  pub no_rows : Has Mh (codes "000000000001 10011") [] (codes "000000000001 10011")
  pub highest_bit_first : HasBytes Mh MsbFirst (0x00 ∷ 0x18 ∷ 0xe0 ∷ []) (codes "WWWBBWWW" ∷ [])
      (codes "00")
  pub lowest_bit_first : HasBytes Mh LsbFirst (0x00 ∷ 0x18 ∷ 0x07 ∷ []) (codes "WWWBBWWW" ∷ [])
      (codes "00")

-- long runs: make-up codes, in any number and order, and then a terminating code
pub record AreLongRuns : Type 0 where
  pub white_63 : IsLongRun 63 (codes "00110100") White
  pub white_64 : IsLongRun 64 (codes "11011 00110101") White
  pub white_72 : IsLongRun 72 (codes "11011 10011") White
  pub white_128 : IsLongRun 128 (codes "10010 00110101") White
  pub two_make_up_codes : IsLongRun 128 (codes "11011 11011 00110101") White
  pub shorter_one_first : IsLongRun 192 (codes "11011 10010 00110101") White
  pub black_64 : IsLongRun 64 (codes "00110101 0000001111 0000110111") Black
  pub black_128 : IsLongRun 128 (codes "00110101 000011001000 0000110111") Black

-- whole strips in MR
pub record AreStripsOfMr : Type 0 where
  pub both_tag_bits : Has Mr
      (codes "000000000001 1 1000 11 1000"
      ++ codes " 000000000001 0 0000010 011 1"
      ++ codes " 000000000001 0 0001 1"
      ++ codes " 000000000001 0 001 1000 11 1"
      ++ codes " 000000000001 1 00110101 000101")
      (codes "WWWBBWWW" ∷ codes "BBBBBBWW" ∷ codes "WWWWWWWW" ∷ codes "WWWBBWWW"
      ∷ codes "BBBBBBBB" ∷ []) []
  pub first_row_in_two_dimensions : Has Mr (codes "000000000001 0 001 1000 11 1")
      (codes "WWWBBWWW" ∷ []) []
  pub fill : Has Mr (codes "000 000000000001 1 10011 00 000000000001 0 1")
      (codes "WWWWWWWW" ∷ codes "WWWWWWWW" ∷ []) []
  pub return_to_control_is_left : Has Mr
      (codes "000000000001 1 10011 000000000001 1 000000000001 1") (codes "WWWWWWWW" ∷ [])
      (codes "000000000001 1 000000000001 1")

-- whole strips in MMR
pub record AreStripsOfMmr : Type 0 where
  pub vertical_modes : Has Mmr
      (codes "001 1011 011 "
      ++ codes " 1 1  011 1  000011 1  0000010 1  0000011 1  000010 1  010 1")
      (codes "WWWWBBBB" ∷ codes "WWWWBBBB" ∷ codes "WWWWWBBB" ∷ codes "WWWWWWWB" ∷ codes "WWWWBBBB"
      ∷ codes "WWWWWWWB" ∷ codes "WWWWWBBB" ∷ codes "WWWWBBBB" ∷ []) []
  pub pass_mode : Has Mmr (codes "001 1000 11 1  0001 1")
      (codes "WWWBBWWW" ∷ codes "WWWWWWWW" ∷ []) []
  pub pass_mode_to_the_width : Has Mmr (codes "0001") (codes "WWWWWWWW" ∷ []) []
  pub pass_mode_in_black : Has Mmr (codes "001 0111 010 001 1000 11  010 0001 1")
      (codes "WWBWWWBB" ∷ codes "WBBBBBBB" ∷ []) []
  pub horizontal_mode_in_black : Has Mmr (codes "001 1011 011  1 001 010 1000")
      (codes "WWWWBBBB" ∷ codes "WWWWBWWW" ∷ []) []
  pub first_pel_is_a_change : Has Mmr (codes "001 00110101 10 1  1 1 1")
      (codes "BBBWWWWW" ∷ codes "BBBWWWWW" ∷ []) []
  pub two_runs_of_0 : Has Mmr (codes "001 00110101 10 1  001 00110101 0000110111 1")
      (codes "BBBWWWWW" ∷ codes "WWWWWWWW" ∷ []) []
  pub end_of_block_is_left : HasBytes Mmr MsbFirst
      (0x31 ∷ 0xc1 ∷ 0x38 ∷ 0xc0 ∷ 0x04 ∷ 0x00 ∷ 0x40 ∷ [])
      (codes "WWWBBWWW" ∷ codes "BBBBBBWW" ∷ codes "WWWWWWWW" ∷ [])
      (codes "000000000001 000000000001 000000")
  pub lowest_bit_first : HasBytes Mmr LsbFirst (0x8c ∷ 0x83 ∷ 0x1c ∷ 0x03 ∷ [])
      (codes "WWWBBWWW" ∷ codes "BBBBBBWW" ∷ codes "WWWWWWWW" ∷ []) (codes "000000")

-- how the rows of a strip of unknown height end
pub record AreEnds : Type 0 where
  pub mh_return_to_control : Ends Mh
      (codes "000000000001 10011 000000000001 000000000001 000000000001"
      ++ codes " 000000000001 000000000001 000000000001") 1 Marked
  pub mh_return_with_fill : Ends Mh
      (codes "000000000001 10011 0 000000000001 000000000001 000 000000000001"
      ++ codes " 000000000001 000000000001 000000000001") 1 Marked
  pub mh_five_eols : Ends Mh
      (codes "000000000001 10011 000000000001 000000000001 000000000001"
      ++ codes " 000000000001 000000000001") 1 (Fault EndMarker)
  pub mr_return_to_control : Ends Mr
      (codes "000000000001 1 10011 000000000001 1 000000000001 1 000000000001 1"
      ++ codes " 000000000001 1 000000000001 1 000000000001 1") 1 Marked
  pub mr_return_with_a_tag_of_0 : Ends Mr
      (codes "000000000001 1 10011 000000000001 1 000000000001 1 000000000001 1"
      ++ codes " 000000000001 1 000000000001 1 000000000001 0") 1 (Fault EndMarker)
  pub mmr_end_of_block : Ends Mmr (codes "1 1 000000000001 000000000001") 2 Marked
  pub mmr_block_without_rows : Ends Mmr (codes "000000000001 000000000001 0000") 0 Marked
  pub mmr_block_after_fill : Ends Mmr (codes "1 0 000000000001 000000000001") 1 (Fault EndMarker)
  pub mh_data_end : Ends Mh (codes "000000000001 10011 000") 1 DataEnd
  pub mr_data_end : Ends Mr (codes "000000000001 1 10011 000000000001 0 1") 2 DataEnd
  pub mmr_data_end : Ends Mmr (codes "1 1 1") 3 DataEnd
  pub no_row_before_the_data_end : Ends Mmr [] 0 (Fault DataEnds)
  pub row_is_cut : Ends Mmr (codes "1 001 1000") 1 (Fault DataEnds)
  pub no_code : Ends Mmr (codes "1 00000001") 1 (Fault BadCode)
  pub extension : Ends Mmr (codes "1 0000001") 1 (Fault Extension)
  pub no_eol : Ends Mh (codes "000000000001 10011 10011") 1 (Fault MissingEol)
  pub too_many : rows_end Mmr most_rows (spelled (codes "1")) None ≡ TooMany
  pub marked_after_most_rows : rows_end Mmr most_rows (spelled (codes "000000000001 000000000001"))
      None ≡ Marked

-- all of them
pub record AreStripsRead : Type 0 where
  pub faults_of_mh : AreFaultsOfMh
  pub faults_of_mr : AreFaultsOfMr
  pub faults_of_mmr : AreFaultsOfMmr
  pub mh : AreStripsOfMh
  pub long_runs : AreLongRuns
  pub mr : AreStripsOfMr
  pub mmr : AreStripsOfMmr
  pub ends : AreEnds
