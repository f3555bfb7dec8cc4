-- Laws of rows, which the functions of the module `laws` prove.
-- A definition without a citation is this project's profile.
use Rattle.std.specs.Prelude.{◌≡◌, ℕ, ◌<◌, ◌^◌, Bool, true, List, [], ◌∷◌, ◌++◌, length, replicate}
use Rattle.fax_bits.specs.declared.Colour.{Colour}
use Rattle.fax_bits.specs.declared.Colour.TheVariants.{White}
use Rattle.fax_bits.specs.Reading.{read}
use Rattle.fax_bits.specs.Written.{run_bits}
use Rattle.fax_rows.specs.Coded.{one_dimensional_bits, two_dimensional_bits, packed_len, packed_row}
use Rattle.fax_rows.specs.ReadRows.{read_one_dimensional, read_two_dimensional}

-- a row has 1 to 65,535 pels
pub record HasWidth (row : List Colour) : Type 0 where
  pub some : 0 < length row
  pub short : length row < 2 ^ 16

-- a row that is written in one-dimensional coding is read back, whatever bits follow it
-- (T.4, section 4.1.1)
abbrev pub OneDimensionalBitsAreRead : Type 0
OneDimensionalBitsAreRead =
    (row : List Colour) (more : List Bool) → HasWidth row
    → read_one_dimensional (length row) (one_dimensional_bits row ++ more) ≡ read row more

-- a row that is written in two-dimensional coding is read back over its reference row, whatever
-- bits follow it (T.4, section 4.2.1.3.3; T.6, section 2.2.4)
abbrev pub TwoDimensionalBitsAreRead : Type 0
TwoDimensionalBitsAreRead =
    (reference row : List Colour) (more : List Bool) → HasWidth row → length reference ≡ length row
    → read_two_dimensional reference (two_dimensional_bits reference row ++ more) ≡ read row more

-- a row that is read has its width: that of its reference in two-dimensional coding
-- (T.4, sections 4.1.1 and 4.2.1.3.3)
pub record RowsHaveTheirWidth : Type 0 where
  pub one_dimensional : (width : ℕ) (b : List Bool) (row : List Colour) (rest : List Bool)
      → read_one_dimensional width b ≡ read row rest → length row ≡ width
  pub two_dimensional : (reference : List Colour) (b : List Bool) (row : List Colour)
      (rest : List Bool)
      → read_two_dimensional reference b ≡ read row rest → length row ≡ length reference

-- a white row is written as one run (T.4, section 4.1.1), over another white one as a 1 (T.4,
-- section 4.2.1.3.3), and packed as zeros
pub record WhiteRowsAreWritten : Type 0 where
  pub one_dimensional : (width : ℕ)
      → one_dimensional_bits (replicate width White) ≡ run_bits White width
  pub two_dimensional : (width : ℕ) → 0 < width
      → two_dimensional_bits (replicate width White) (replicate width White) ≡ true ∷ []
  pub packed : (width : ℕ) → packed_row (replicate width White) ≡ replicate (packed_len width) 0
