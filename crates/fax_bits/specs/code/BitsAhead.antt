-- The bits from a place in some bytes on, of which a window holds the first.
use Rattle.std.specs.Prelude.{◌≡◌, ℕ, ◌*◌, ◌-◌, ◌≤◌, Bool, List, ◌++◌, length, drop}
use Rattle.fax_bits.specs.declared.FillOrder.{FillOrder}
use Rattle.fax_bits.specs.declared.window.Window.{Window}
use Rattle.fax_bits.specs.Bits.{bits}
use Rattle.fax_bits.specs.code.Window.{first_bits}

-- the bits that are loaded, and then those of the bytes that are not (TIFF 6.0, FillOrder)
abbrev pub bits_ahead : FillOrder → List ℕ → Window → List Bool
bits_ahead order bytes window =
    first_bits window.count window.bits ++ bits order (drop window.at bytes)

-- how many bits stand before those of a window
abbrev pub bit_offset : Window → ℕ
bit_offset window = 8 * window.at - window.count

-- the window's bits are those from its place on, which lies in the bytes
pub record IsAhead (order : FillOrder) (bytes : List ℕ) (window : Window) : Type 0 where
  pub within : window.at ≤ length bytes
  pub before : window.count ≤ 8 * window.at
  pub counted : length bytes ≤ 4294967295
  pub bits_are : bits_ahead order bytes window ≡ drop (bit_offset window) (bits order bytes)
