-- The bits of a strip: a list of truth values, where true is the bit 1.
-- A definition without a citation is this project's profile.
use Rattle.std.specs.Prelude.{◌≡◌, ℕ, zero, suc, ◌+◌, ◌*◌, ◌/◌, ◌==◌, Bool, false, if◌then◌else◌}
use Rattle.std.specs.Prelude.{List, [], ◌∷◌, ◌++◌, length, map, fold, replicate, reverse, flat_map}
use Rattle.std.specs.Int.{bit_at}
use Rattle.std.specs.Simd.{first_chunks}
pub use Rattle.fax_bits.specs.declared.Colour.{Colour}
pub use Rattle.fax_bits.specs.declared.Colour.TheVariants.{White, Black}
pub use Rattle.fax_bits.specs.declared.FillOrder.{FillOrder}
pub use Rattle.fax_bits.specs.declared.FillOrder.TheVariants.{MsbFirst, LsbFirst}

-- the lowest `len` bits of a number, the highest of them first (T.4, tables 2 to 4)
unfoldable pub code_bits : ℕ → ℕ → List Bool
code_bits zero number = []
code_bits (suc len) number = (bit_at number len == 1) ∷ code_bits len number

-- the eight bits of a byte, in the order in which they were coded (TIFF 6.0, FillOrder)
unfoldable pub byte_bits : FillOrder → ℕ → List Bool
byte_bits MsbFirst byte = code_bits 8 byte
byte_bits LsbFirst byte = reverse (code_bits 8 byte)

-- the bits of the bytes (TIFF 6.0, FillOrder)
unfoldable pub bits : FillOrder → List ℕ → List Bool
bits order bytes = flat_map (byte_bits order) bytes

-- the number that bits spell, the highest first
abbrev pub bits_number : List Bool → ℕ
bits_number b = fold (λ number bit. 2 * number + (if bit then 1 else 0)) 0 b

-- the byte of eight bits (TIFF 6.0, FillOrder)
abbrev pub byte_of : FillOrder → List Bool → ℕ
byte_of MsbFirst eight = bits_number eight
byte_of LsbFirst eight = bits_number (reverse eight)

-- the bytes of bits, with zeros up to a whole byte (TIFF 6.0, FillOrder)
unfoldable pub packed : FillOrder → List Bool → List ℕ
packed order b = map (byte_of order) (first_chunks 8 ((length b + 7) / 8) (b ++ replicate 7 false))

-- the list begins with this front
abbrev pub StartsWith : {A : Type 0} → List A → List A → Type 0
StartsWith {A} list front = (rest : List A) × (list ≡ front ++ rest)

-- no 1 is among the bits (T.4, section 4.1.3)
abbrev pub IsAllZeros : List Bool → Type 0
IsAllZeros b = (zeros : ℕ) × (b ≡ replicate zeros false)
