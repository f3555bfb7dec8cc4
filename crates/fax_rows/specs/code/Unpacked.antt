-- How far a row is unpacked into its places of change.
use Rattle.std.specs.Prelude.{◌≡◌, ℕ, ◌≤◌, ◌<◌, Bool, false, List, slice_index_or}
use Rattle.fax_bits.specs.declared.Colour.{Colour}
use Rattle.fax_bits.specs.declared.Colour.TheVariants.{Black}
use Rattle.fax_rows.specs.Coded.{colour_of_bit}
use Rattle.fax_rows.specs.code.ChangeLists.{toggled}

-- the places that are put are those of the pels of the first i bits, after which the row has this
-- colour
pub record IsUnpackedTo (b : List Bool) (changes : List ℕ) (i : ℕ) (colour : Colour) : Type 0 where
  pub before : (k : ℕ) → k < i → toggled Black changes k ≡ colour_of_bit (slice_index_or b k false)
  pub after : (k : ℕ) → i ≤ k → toggled Black changes k ≡ colour

-- the bits from a place up to another are white
abbrev pub AreWhite : List Bool → ℕ → ℕ → Type 0
AreWhite b from to = (i : ℕ) → from ≤ i → i < to → slice_index_or b i false ≡ false
