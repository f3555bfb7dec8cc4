-- Laws of what is left of rows of a strip of unknown height, which a function of the module `laws`
-- proves.
use Rattle.std.specs.Prelude.{◌≡◌, ℕ, ◌≤◌, ◌⊎◌, Bool, List, ◌++◌, map, Option}
use Rattle.fax_bits.specs.declared.Colour.{Colour}
use Rattle.fax_page.specs.Lines.{StripFault, StripForm}
use Rattle.fax_page.specs.Uncounted.{DataEnd, Marked, RowsEnd, uncounted}
use Rattle.fax_page.specs.laws.Uncounted.{IsUncounted}
use Rattle.fax_page.specs.Salvage.{AreSalvaged, SalvagedRow, found}
use Rattle.fax_page.specs.LeftUncounted.{AreLeftUncounted, IsLeftUncounted}

-- from row i on rows of a strip of unknown height are left in one way: one list and one end
pub record AreUncountedOneWay (form : StripForm) (i : ℕ) (before : Option StripFault)
    (reference : List Colour) (b : List Bool) : Type 0 where
  pub rows : List SalvagedRow
  pub end : RowsEnd
  pub are : AreLeftUncounted form i before reference b rows end
  pub one : (others : List SalvagedRow) (other : RowsEnd)
      → AreLeftUncounted form i before reference b others other → (others ≡ rows) × (other ≡ end)

-- rows of a strip of unknown height are left in one way; they are the first rows that are left of a
-- strip with as many as there may be; and where they are read to a good end all are found
pub record LeavesUncounted : Type 0 where
  pub one : (form : StripForm) (i : ℕ) (before : Option StripFault) (reference : List Colour)
      (b : List Bool) → i ≤ form.rows → AreUncountedOneWay form i before reference b
  pub first : (form : StripForm) (i : ℕ) (before : Option StripFault) (reference : List Colour)
      (b : List Bool) (rows : List SalvagedRow) (end : RowsEnd) → i ≤ form.rows
      → AreLeftUncounted form i before reference b rows end
      → (others : List SalvagedRow) × AreSalvaged form i before reference b (rows ++ others)
  pub whole : (form : StripForm) (b : List Bool) (rows : List (List Colour)) (end : RowsEnd)
      → IsUncounted form b rows end → (end ≡ Marked) ⊎ (end ≡ DataEnd)
      → IsLeftUncounted (uncounted form) b (map (λ row. found row) rows) end
