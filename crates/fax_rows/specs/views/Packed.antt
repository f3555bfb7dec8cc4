-- How the contract of a search in packed bytes sees them (the netpbm format, P4).
use Rattle.std.specs.Prelude.{ℕ, ◌-◌, ◌*◌, false, not, List, length, slice_index_or}
use Rattle.fax_bits.specs.declared.Colour.{Colour}
use Rattle.fax_bits.specs.declared.FillOrder.TheVariants.{MsbFirst}
use Rattle.fax_bits.specs.Bits.{bits}
use Rattle.fax_rows.specs.Rows.{first_index, same_colour}
use Rattle.fax_rows.specs.Coded.{colour_of_bit}

-- the least place from this one on whose bit, the highest of each byte first, is not of the colour,
-- or the place after the last bit (the netpbm format, P4)
unfoldable pub first_other : List ℕ → ℕ → Colour → ℕ
first_other bytes from colour =
    first_index (λ i. not (same_colour (colour_of_bit
    (slice_index_or (bits MsbFirst bytes) i false)) colour)) from (8 * length bytes - from)
