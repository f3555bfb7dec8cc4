-- No EOL stands among a row's codes, so that each row that is found reaches to the EOL after it
-- (T.4, section 4.1.2, and tables 2, 3a, 3b and 4). A function of the module `laws` proves it.
use Rattle.std.specs.Prelude.{◌≡◌, ℕ, ◌⊎◌, Bool, List, ◌∷◌, ◌++◌, Option, Some, None}
use Rattle.fax_bits.specs.Bits.{IsAllZeros}
use Rattle.fax_bits.specs.declared.Colour.{Colour}
use Rattle.fax_page.specs.declared.StripFault.{StripFault}
use Rattle.fax_page.specs.declared.StripForm.{StripForm}
use Rattle.fax_bits.specs.Reading.{read}
use Rattle.fax_page.specs.declared.Dimension.{Dimension}
use Rattle.fax_page.specs.Lines.{IsLine, ends_line, next_one, read_start}
use Rattle.fax_page.specs.Salvage.{AreSalvaged, NeedsEol, SalvagedRow, after_eol, found}

-- the codes of a row hold no EOL, and none begins among them and ends after them where one follows:
-- the first from the row's first code on is that one
pub record RowsHoldNoEol : Type 0 where
  pub inside : (form : StripForm) (i : ℕ) (reference : List Colour) (b : List Bool)
      (row : List Colour) (rest : List Bool) (dimension : Dimension) (codes : List Bool)
      → IsLine form i reference b row rest → read_start form.coding i b ≡ read dimension codes
      → (own : List Bool) × (codes ≡ own ++ rest) × (after_eol 0 own ≡ None)
  pub next : (form : StripForm) (i : ℕ) (reference : List Colour) (b : List Bool)
      (row : List Colour) (rest : List Bool) (dimension : Dimension) (codes after : List Bool)
      → IsLine form i reference b row rest → read_start form.coding i b ≡ read dimension codes
      → next_one 0 rest ≡ ends_line after → after_eol 0 codes ≡ Some after

-- a row that is found, and after which an EOL is expected, reaches from its own EOL to the next
-- one, or nothing but zeros follows it
abbrev pub FoundRowsReachToTheNextEol : Type 0
FoundRowsReachToTheNextEol =
    (form : StripForm) (i : ℕ) (before : Option StripFault) (reference : List Colour)
    (b : List Bool) (row : List Colour) (rows : List SalvagedRow)
    → AreSalvaged form i before reference b (found row ∷ rows) → NeedsEol form i
    → (rest : List Bool) × IsLine form i reference b row rest
    × (IsAllZeros rest
    ⊎ ((after : List Bool) × (next_one 0 rest ≡ ends_line after)
    × ((dimension : Dimension) (codes : List Bool)
    → read_start form.coding i b ≡ read dimension codes → after_eol 0 codes ≡ Some after)))
