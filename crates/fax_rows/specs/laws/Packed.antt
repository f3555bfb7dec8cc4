-- What is read back of packed pels.
-- A definition without a citation is this project's profile.
use Rattle.std.specs.Prelude.{◌≡◌, ℕ, ◌-◌, ◌*◌, false, List, ◌++◌, map}
use Rattle.std.specs.Prelude.{length, take, replicate}
use Rattle.fax_bits.specs.declared.FillOrder.TheVariants.{MsbFirst}
use Rattle.fax_bits.specs.declared.Colour.{Colour}
use Rattle.fax_bits.specs.Bits.{bits}
use Rattle.fax_rows.specs.Coded.{is_black, packed_len, packed_row, unpacked_row}

-- the bits of a packed row are its pels, and zeros up to a whole byte (the netpbm format, P4)
abbrev pub HasBitsOfPels : Type 0
HasBitsOfPels =
    (row : List Colour)
    → bits MsbFirst (packed_row row)
    ≡ map is_black row ++ replicate (8 * packed_len (length row) - length row) false

-- a packed row is read back
abbrev pub IsReadBack : Type 0
IsReadBack = (row : List Colour) → unpacked_row (length row) (packed_row row) ≡ row

-- bytes whose row is packed again are as they were, but for the padding, which is zeros
abbrev pub IsPackedBack : Type 0
IsPackedBack =
    (width : ℕ) (bytes : List ℕ) → length bytes ≡ packed_len width
    → bits MsbFirst (packed_row (unpacked_row width bytes))
    ≡ take width (bits MsbFirst bytes) ++ replicate (8 * packed_len width - width) false

-- packing and unpacking undo one another, and a row of a width has so many bytes
pub record PackingUndoesUnpacking : Type 0 where
  pub packed_count : (row : List Colour) → length (packed_row row) ≡ packed_len (length row)
  pub unpacked_count : (width : ℕ) (bytes : List ℕ) → length bytes ≡ packed_len width
      → length (unpacked_row width bytes) ≡ width
  pub bits_of_pels : HasBitsOfPels
  pub read_back : IsReadBack
  pub packed_back : IsPackedBack
