-- What is left of rows of a strip of unknown height, where they are damaged: each is found or lost
-- as in a strip whose rows are counted, up to where they end. A definition without a citation is
-- this project's profile.
use Rattle.std.specs.Prelude.{◌≡◌, ◌≢◌, ℕ, ◌+◌, ◌<◌, ◌⊎◌, Bool, List, [], ◌∷◌, Option, Some, None}
use Rattle.fax_bits.specs.declared.Colour.{Colour}
use Rattle.fax_page.specs.declared.StripFault.TheVariants.{MissingEol}
use Rattle.fax_page.specs.Lines.{StripFault, StripForm, in_code, next_one, read_start, white_row}
use Rattle.fax_page.specs.Uncounted.{Fault, RowsEnd, TooMany, rows_end}
use Rattle.fax_page.specs.Salvage.{SalvagedRow, found, lost, unended}
use Rattle.fax_page.specs.Salvage.{NeedsEol, IsLostBecause, IsReadFrom, resync_point, resync_from}

-- row i comes next: there may be so many rows, and they do not end before it
abbrev pub HasNextRow : StripForm → ℕ → List Bool → Type 0
HasNextRow form i b =
    (i < form.rows) × (rows_end form.coding i b None ≡ TooMany)

-- the rows end so before row i: with an end mark, with the data, or since there may be no more
abbrev pub IsEndBefore : StripForm → ℕ → List Bool → RowsEnd → Type 0
IsEndBefore form i b end =
    (rows_end form.coding i b None ≡ end) × (end ≡ TooMany → i ≡ form.rows)

-- after row i, which is lost for this cause, the next one begins at the next EOL; where none is
-- left, or there may be no more rows, they end with that fault
abbrev pub ResumesUncounted : StripForm → ℕ → List Bool → StripFault → (List Bool → Type 0)
    → List SalvagedRow → RowsEnd → Type 0
ResumesUncounted form i b fault at_eol rows end =
    (from : List Bool) × (resync_from b (read_start form.coding i b) ≡ from)
    × ((((resync_point form.coding from ≡ None) ⊎ (i + 1 ≡ form.rows)) × (rows ≡ [])
    × (end ≡ Fault fault))
    ⊎ ((upcoming : List Bool) × (resync_point form.coding from ≡ Some upcoming)
    × (i + 1 < form.rows)
    × at_eol upcoming))

-- from row i on these rows are found or lost, over this reference, and they end so; before it
-- stands a row that is lost, where a cause is given
abbrev pub AreLeftUncounted : StripForm → ℕ → Option StripFault → List Colour → List Bool
    → List SalvagedRow → RowsEnd → Type 0
AreLeftUncounted form i before reference b [] end = IsEndBefore form i b end
AreLeftUncounted form i before reference b (found row ∷ rows) end =
    (rest : List Bool) × HasNextRow form i b × IsReadFrom form i before reference b row rest
    × (NeedsEol form i → next_one 0 rest ≢ in_code)
    × AreLeftUncounted form (i + 1) None row rest rows end
AreLeftUncounted form i before reference b (lost fault ∷ rows) end =
    HasNextRow form i b × IsLostBecause form i before reference b fault
    × ResumesUncounted form i b fault
    (λ upcoming. AreLeftUncounted form (i + 1) (Some fault) (white_row form.width) upcoming rows
    end) rows end
AreLeftUncounted form i before reference b (unended row ∷ rows) end =
    (rest : List Bool) × HasNextRow form i b × IsReadFrom form i before reference b row rest
    × NeedsEol form i × (next_one 0 rest ≡ in_code)
    × ResumesUncounted form i b MissingEol
    (λ upcoming. AreLeftUncounted form (i + 1) (Some MissingEol) (white_row form.width) upcoming
    rows end)
    rows end

-- what is left of rows of a strip of unknown height, and how they end: the form has as many rows as
-- there may be
abbrev pub IsLeftUncounted : StripForm → List Bool → List SalvagedRow → RowsEnd → Type 0
IsLeftUncounted form b rows end =
    AreLeftUncounted form 0 None (white_row form.width) b rows end
