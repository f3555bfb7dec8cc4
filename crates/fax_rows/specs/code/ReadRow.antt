-- A row in two-dimensional coding that is read into places of change.
use Rattle.std.specs.Prelude.{◌≡◌, ℕ, ◌++◌, Bool, List, IsTrue}
use Rattle.fax_rows.specs.declared.change_list.ChangingElements.{ChangingElements}
use Rattle.fax_rows.specs.Coded.{two_dimensional_bits}
use Rattle.fax_rows.specs.ReadRows.{read_two_dimensional}
use Rattle.fax_bits.specs.Reading.{read}
use Rattle.fax_rows.specs.code.ChangingElements.{element_pels}
use Rattle.fax_rows.specs.code.Put.{AreChangesPut}
use Rattle.fax_rows.specs.code.ChangeLists.{row_of}

-- the bits begin with the row of the first `end` places, where it is asked for as it is written
pub record IsReadRow (choice : Bool) (reference : ChangingElements) (b : List Bool) (changes : List
    ℕ)
    (end : ℕ) (rest : List Bool) : Type 0 where
  pub row : read_two_dimensional (element_pels reference) b
      ≡ read (row_of changes end reference.width) rest
  pub chosen : IsTrue choice
      → b ≡ two_dimensional_bits (element_pels reference) (row_of changes end reference.width)
      ++ rest
  pub put : AreChangesPut reference.width changes end reference.width
