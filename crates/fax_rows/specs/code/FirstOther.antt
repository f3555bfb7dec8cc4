-- The first bit that is not of a colour, by bytes.
use Rattle.std.specs.Prelude.{◌≡◌, ◌≢◌, ℕ, ◌-◌, ◌≤◌, ◌<◌, ◌==◌, Bool, not, List, length}
use Rattle.std.specs.Prelude.{slice_index}
use Rattle.std.specs.Int.{bit_at}
use Rattle.fax_bits.specs.declared.Colour.{Colour}
use Rattle.fax_bits.specs.declared.Colour.TheVariants.{White, Black}
use Rattle.fax_rows.specs.Rows.{same_colour, first_index}
use Rattle.fax_rows.specs.Coded.{colour_of_bit}

-- bit i of a byte, the highest first, is not of the colour
abbrev pub is_other_bit : ℕ → Colour → ℕ → Bool
is_other_bit byte colour i = not (same_colour (colour_of_bit (bit_at byte (7 - i) == 1)) colour)

-- the least place from this one on whose bit in a byte is not of the colour, or 8
unfoldable pub first_other_in_byte : ℕ → ℕ → Colour → ℕ
first_other_in_byte byte from colour = first_index (is_other_bit byte colour) from (8 - from)

-- the bits of a byte that are not of the colour, as 1
abbrev pub others : ℕ → Colour → ℕ
others byte White = byte
others byte Black = 255 - byte

-- the byte of eight pels of the colour
abbrev pub plain_byte : Colour → ℕ
plain_byte White = 0
plain_byte Black = 255

-- the first of the bytes from a place on that is not this one, or the place after them all
pub record IsFirstOtherByte (bytes : List ℕ) (from byte r : ℕ) : Type 0 where
  pub right : from ≤ r
  pub within : r ≤ length bytes
  pub same : (k : ℕ) → from ≤ k → k < r → slice_index bytes k ≡ byte
  pub other : r < length bytes → slice_index bytes r ≢ byte
