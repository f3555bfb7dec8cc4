-- Words of 64 pels and bytes of eight, the highest bit first.
use Rattle.std.specs.Prelude.{◌≡◌, ℕ, ◌+◌, ◌-◌, ◌≤◌, ◌<◌, ◌==◌, Bool, false, List, map}
use Rattle.std.specs.Prelude.{slice_index, slice_index_or}
use Rattle.std.specs.Int.{bit_at}
use Rattle.fax_bits.specs.declared.Colour.{Colour}
use Rattle.fax_bits.specs.declared.Colour.TheVariants.{Black}
use Rattle.fax_rows.specs.declared.change_list.ChangingElements.{ChangingElements}
use Rattle.fax_rows.specs.Coded.{is_black}
use Rattle.fax_rows.specs.code.ChangingElements.{element_pels}
use Rattle.fax_rows.specs.code.ChangeLists.{alternate}

-- bit i of a word, the highest first
abbrev pub word_bit : ℕ → ℕ → Bool
word_bit word i = bit_at word (63 - i) == 1

-- the word has the bits of the 64 pels from a place on, and zeros for those after the last pel
abbrev pub IsPackedWord : List Colour → ℕ → ℕ → Type 0
IsPackedWord row from word =
    (i : ℕ) → i < 64 → word_bit word i ≡ slice_index_or (map is_black row) (from + i) false

-- the byte has those of the eight pels from a place on (the netpbm format, P4)
abbrev pub IsPackedByte : List Colour → ℕ → ℕ → Type 0
IsPackedByte row from byte =
    (i : ℕ) → i < 8 → (bit_at byte (7 - i) == 1) ≡ slice_index_or (map is_black row) (from + i)
    false

-- the places that are passed stand in a word, of which the pels left of the last of them are right,
-- and the others have the colour after it
pub record IsWordTo (row : ChangingElements) (from word passed : ℕ) : Type 0 where
  pub some : 0 < passed
  pub within : passed ≤ row.end
  pub ahead : passed < row.end → from ≤ slice_index row.changes.now passed
  pub before : (i : ℕ) → i < 64 → from + i < slice_index row.changes.now (passed - 1)
      → word_bit word i ≡ slice_index_or (map is_black (element_pels row)) (from + i) false
  pub after : (i : ℕ) → i < 64 → slice_index row.changes.now (passed - 1) ≤ from + i
      → word_bit word i ≡ is_black (alternate Black passed)
