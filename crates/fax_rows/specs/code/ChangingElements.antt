-- b1 on a reference row that is lent as its places of change.
use Rattle.std.specs.Prelude.{◌≡◌, ℕ, true, false, Option, ◌+◌, ◌-◌, ◌≤◌, ◌<◌, List, slice_index}
use Rattle.fax_bits.specs.declared.Colour.{Colour}
use Rattle.fax_bits.specs.declared.Colour.TheVariants.{Black}
use Rattle.fax_rows.specs.declared.change_list.ChangingElements.{ChangingElements}
use Rattle.fax_rows.specs.Rows.{is_right_of}
use Rattle.fax_rows.specs.code.ChangeLists.{row_of, alternate}

-- the pels of the row
abbrev pub element_pels : ChangingElements → List Colour
element_pels row = row_of row.changes.now row.end row.width

-- where the search for b1 right of the pel a begins: no change of the other colour left of index b
-- is right of a (T.4, section 4.2.1.3.1)
pub record IsBeforeB1 (row : ChangingElements) (a : ℕ) (colour : Colour) (b : ℕ) : Type 0 where
  pub within : b ≤ row.end + 1
  pub colour_is : alternate Black b ≡ colour
  pub passed : 2 < b → slice_index row.changes.now (b - 2) ≤ a

-- b1 stands at index b of the reference row, as seen from a0 of this colour
-- (T.4, section 4.2.1.3.1)
pub record IsB1At (row : ChangingElements) (a0 : Option ℕ) (colour : Colour) (b : ℕ) : Type 0 where
  pub some : 0 < b
  pub within : b ≤ row.end + 1
  pub colour_is : alternate Black b ≡ colour
  pub passed : 2 < b → is_right_of a0 (slice_index row.changes.now (b - 2)) ≡ false
  pub ahead : b < row.end → is_right_of a0 (slice_index row.changes.now b) ≡ true
