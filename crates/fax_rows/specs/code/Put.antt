-- A row that is being put: the places of change so far.
use Rattle.std.specs.Prelude.{◌≡◌, ℕ, ◌+◌, ◌-◌, ◌≤◌, List, length, slice_index}
use Rattle.fax_rows.specs.code.ChangeLists.{IsAscending}

-- there is room for the places of a row of this width, the first of which is put
pub record HasRoom (width : ℕ) (changes : List ℕ) : Type 0 where
  pub len : length changes ≡ width + 4
  pub first : slice_index changes 0 ≡ 0

-- the first `end` places are those of a row of this width up to the pel `total`, and there is room
-- for the others
pub record AreChangesPut (width : ℕ) (changes : List ℕ) (end total : ℕ) : Type 0 where
  pub room : length changes ≡ width + 4
  pub ascending : IsAscending changes end
  pub last : slice_index changes (end - 1) ≤ total
  pub within : total ≤ width
