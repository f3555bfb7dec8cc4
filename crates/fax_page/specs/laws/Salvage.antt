-- Laws of what is left of a damaged strip, which functions of the module `laws` prove.
-- A definition without a citation is this project's profile.
use Rattle.std.specs.Prelude.{◌≡◌, ◌≢◌, ℕ, ◌+◌, ◌<◌, ◌≤◌, Bool, List, [], ◌∷◌, ◌++◌, length, map}
use Rattle.std.specs.Prelude.{drop, Option, Some, None}
use Rattle.fax_bits.specs.declared.Colour.{Colour}
use Rattle.fax_page.specs.Lines.{Coding, Mmr, StripFault, StripForm}
use Rattle.fax_page.specs.Salvage.{AreSalvaged, IsSalvagedStrip, SalvagedRow, after_eol, found}
use Rattle.fax_page.specs.Salvage.{resync_point, unended}
use Rattle.fax_page.specs.declared.StripFault.TheVariants.{MissingEol}
use Rattle.fax_page.specs.Strip.{eol_bits}
use Rattle.fax_page.specs.laws.Lines.{AreLines}
use Rattle.fax_page.specs.declared.salvage_reader.Salvaged.{Salvaged}
use Rattle.fax_page.specs.views.Salvage.{IsSalvageStep, SalvageState}
use Rattle.fax_page.specs.laws.Lines.{IsStrip}

-- from row i on each row is found or lost in one way, and all rows of the strip are
pub record AreSalvagedOneWay (form : StripForm) (i : ℕ) (before : Option StripFault)
    (reference : List Colour) (b : List Bool) : Type 0 where
  pub rows : List SalvagedRow
  pub are : AreSalvaged form i before reference b rows
  pub count : i + length rows ≡ form.rows
  pub one : (others : List SalvagedRow) → AreSalvaged form i before reference b others
      → others ≡ rows

-- each strip has one such reading
abbrev pub SalvagesStripsOneWay : Type 0
SalvagesStripsOneWay =
    (form : StripForm) (i : ℕ) (before : Option StripFault) (reference : List Colour)
    (b : List Bool) → i ≤ form.rows → AreSalvagedOneWay form i before reference b

-- where all rows are found they are those that the strip is read as, and all that it is read as are
-- found where it is read wholly
pub record FindsWholeStrips : Type 0 where
  pub strip : (form : StripForm) (b : List Bool) (rows : List (List Colour))
      → IsSalvagedStrip form b (map (λ row. found row) rows) → IsStrip form b rows None
  pub whole : (form : StripForm) (i : ℕ) (reference : List Colour) (b : List Bool)
      (rows : List (List Colour))
      → AreSalvaged form i None reference b (map (λ row. found row) rows)
      → (remaining : List Bool) × AreLines form i reference b rows None remaining
  pub all_found : (form : StripForm) (i : ℕ) (reference : List Colour) (b : List Bool)
      (rows : List (List Colour)) (remaining : List Bool)
      → AreLines form i reference b rows None remaining
      → AreSalvaged form i None reference b (map (λ row. found row) rows)

-- the rows that are read before a fault are found; all but the last where an EOL is missing after
-- that one
pub record FindsRowsBeforeFaults : Type 0 where
  pub all : (form : StripForm) (i : ℕ) (reference : List Colour) (b : List Bool)
      (rows : List (List Colour)) (fault : StripFault) (remaining : List Bool) → fault ≢ MissingEol
      → AreLines form i reference b rows (Some fault) remaining
      → (others : List SalvagedRow)
      × AreSalvaged form i None reference b (map (λ row. found row) rows ++ others)
  pub all_but_last : (form : StripForm) (i : ℕ) (reference : List Colour) (b : List Bool)
      (rows : List (List Colour)) (last : List Colour) (remaining : List Bool)
      → AreLines form i reference b (rows ++ last ∷ []) (Some MissingEol) remaining
      → (others : List SalvagedRow)
      × AreSalvaged form i None reference b (map (λ row. found row) rows ++ unended last ∷ others)

-- in MH and MR the row after a lost one begins at the next EOL, whatever bits that hold no EOL
-- stand before it
abbrev pub LostBitsDoNotMatter : Type 0
LostBitsDoNotMatter =
    (coding : Coding) (lost rest : List Bool) → coding ≢ Mmr → after_eol 0 lost ≡ None
    → resync_point coding (lost ++ eol_bits ++ rest) ≡ Some (eol_bits ++ rest)

-- these bits are what is left of others after so many of them
abbrev pub IsRestOf : List Bool → List Bool → Type 0
IsRestOf all rest = (n : ℕ) × (n ≤ length all) × (drop n all ≡ rest)

-- a row after others begins among the bits of the strip
abbrev pub UpcomingRowsStandInStrips : Type 0
UpcomingRowsStandInStrips =
    (old new : SalvageState) (salvaged : Salvaged) → IsSalvageStep old (Some salvaged) new
    → new.row < new.form.rows → IsRestOf old.upcoming new.upcoming
