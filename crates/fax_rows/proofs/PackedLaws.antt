-- Packing and unpacking of rows undo one another.
use Rattle.fax_bits.specs.laws.Codes.{PacksOneWay, AreBitsByIndex}
use Rattle.std.proofs.lemmas.Grind.{common_steps}
use Rattle.std.proofs.Common.{◌≡◌, ℕ, ◌+◌, ◌*◌, List, [], ◌∷◌, map, length, take, get_or, Bool, true, false, refl, ap}
use Rattle.std.proofs.Common.{arith}
use Rattle.std.proofs.lemmas.List.{take-map}
use Rattle.fax_bits.specs.declared.FillOrder.TheVariants.{MsbFirst}
use Rattle.fax_bits.specs.declared.Colour.{Colour}
use Rattle.fax_bits.specs.Bits.{bits}
use Rattle.fax_rows.specs.Coded.{packed_len, is_black, colour_of_bit, packed_row, unpacked_row}
use Rattle.fax_rows.specs.laws.Packed.{HasBitsOfPels, IsReadBack, IsPackedBack, PackingUndoesUnpacking}
use Rattle.fax_rows.proofs.PackedLemmas.{get_or-padded, unpacked_at}

-- by the laws of the bits of bytes
module _ (changes : AreBitsByIndex) (one_way : PacksOneWay) where
  sizes : (row : List Colour) → 8 * length (packed_row row) ≡ length row +
      (one_way.padded MsbFirst (map is_black row)).0
  unfolding packed_row
  sizes row = grind (arith, common_steps)

  length-packed_row : (row : List Colour) → length (packed_row row) ≡ packed_len (length row)
  length-packed_row row = omega (arith, sizes row, (one_way.padded MsbFirst (map is_black row)).1)

  bits_of_pels : HasBitsOfPels
  unfolding packed_row
  bits_of_pels row = grind (arith, sizes)

  -- bit i of a packed row
  bit-packed_row : (row : List Colour) (i : ℕ) → get_or (bits MsbFirst (packed_row row)) i false
      ≡ get_or (map is_black row) i false
  bit-packed_row row i = grind (arith, bits_of_pels, get_or-padded)

  read_back : IsReadBack
  read_back row = grind (arith, common_steps, unpacked_at, length-packed_row, bit-packed_row)

  black_of_bits : (b : List Bool) → map is_black (map colour_of_bit b) ≡ b
  black_of_bits [] = refl
  black_of_bits (true ∷ b) = ap (λ more. true ∷ more) (black_of_bits b)
  black_of_bits (false ∷ b) = ap (λ more. false ∷ more) (black_of_bits b)

  bits_of_unpacked : (width : ℕ) (bytes : List ℕ) → map is_black (unpacked_row width bytes)
      ≡ take width (bits MsbFirst bytes)
  unfolding unpacked_row
  bits_of_unpacked width bytes = grind (arith, take-map, black_of_bits)

  length-unpacked_row : (width : ℕ) (bytes : List ℕ) → length bytes ≡ packed_len width
      → length (unpacked_row width bytes) ≡ width
  unfolding unpacked_row
  length-unpacked_row width bytes whole = grind (arith, common_steps)

  packed_back : IsPackedBack
  packed_back width bytes whole = grind (arith, common_steps, bits_of_pels, bits_of_unpacked)

  pub packing_undoes_unpacking : PackingUndoesUnpacking
  packing_undoes_unpacking = record {
    packed_count = length-packed_row;
    unpacked_count = length-unpacked_row;
    bits_of_pels = bits_of_pels;
    read_back = read_back;
    packed_back = packed_back;
  }
