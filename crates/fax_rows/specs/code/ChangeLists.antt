-- A row as its places of change: each of them turns the colour of the pels from there on.
use Rattle.std.specs.Prelude.{◌≡◌, ℕ, zero, suc, Option, Some, None, ◌+◌, ◌-◌, ◌≤◌}
use Rattle.std.specs.Prelude.{◌<◌, ◌^◌, nat_le, if◌then◌else◌, List, [], ◌∷◌, map, length, take}
use Rattle.std.specs.Prelude.{slice_index}
use Rattle.std.specs.List.{range_with_len}
use Rattle.fax_bits.specs.declared.Colour.{Colour}
use Rattle.fax_bits.specs.declared.Colour.TheVariants.{Black}
use Rattle.fax_rows.specs.Rows.{other}

-- a colour, turned by each of the places that is not right of place i
unfoldable pub toggled : Colour → List ℕ → ℕ → Colour
toggled colour [] i = colour
toggled colour (column ∷ changes) i = toggled (if nat_le column i then other colour else colour)
    changes i

-- a colour, turned so many times
abbrev pub alternate : Colour → ℕ → Colour
alternate c zero = c
alternate c (suc k) = alternate (other c) k

-- the pels of a row of this width; the first place is 0, where black turns to the imaginary white
-- pel's colour
unfoldable pub pels_of_changes : ℕ → List ℕ → List Colour
pels_of_changes width changes = map (toggled Black changes) (range_with_len 0 width)

-- the row of the first `end` places
abbrev pub row_of : List ℕ → ℕ → ℕ → List Colour
row_of changes end width = pels_of_changes width (take end changes)

-- the first `end` places ascend from a 0 on, which the first change may repeat
pub record IsAscending (changes : List ℕ) (end : ℕ) : Type 0 where
  pub started : 0 < end
  pub within : end ≤ length changes
  pub first : slice_index changes 0 ≡ 0
  pub steps : (i : ℕ) → 0 < i → i + 1 < end → slice_index changes i < slice_index changes (i + 1)

-- the changes of a row stand after the first place and before `end`, and the width three times
-- after them
pub record AreChanges (changes : List ℕ) (end width : ℕ) : Type 0 where
  pub some : 0 < width
  pub short : width < 2 ^ 16
  pub room : length changes ≡ width + 4
  pub ascending : IsAscending changes end
  pub below : (i : ℕ) → 0 < i → i < end → slice_index changes i < width
  pub after : (i : ℕ) → i < 3 → slice_index changes (end + i) ≡ width

-- place i lies after k of the first `end` places and before the others
pub record AreChangesUpTo (changes : List ℕ) (end i k : ℕ) : Type 0 where
  pub some : 0 < k
  pub within : k ≤ end
  pub left_hand : slice_index changes (k - 1) ≤ i
  pub right : k < end → i < slice_index changes k

-- the first k of the places are not right of pel i, and the others not left of it
pub record HasPassed (changes : List ℕ) (end i k : ℕ) : Type 0 where
  pub some : 0 < k
  pub within : k ≤ end
  pub left_hand : slice_index changes (k - 1) ≤ i
  pub right : k < end → i ≤ slice_index changes k

-- the new places give the colours of the old ones, turned from a place on
pub record IsToggledFrom (old new : List ℕ) (column : ℕ) : Type 0 where
  pub left_hand : (i : ℕ) → i < column → toggled Black new i ≡ toggled Black old i
  pub right : (i : ℕ) → column ≤ i → toggled Black new i ≡ other (toggled Black old i)

-- the places up to `end` are turned from a place on by the new ones up to `next`, the last of which
-- is not right of it
pub record TogglesAt (old new : List ℕ) (end next column : ℕ) : Type 0 where
  pub ascending : IsAscending new next
  pub last : slice_index new (next - 1) ≤ column
  pub toggled : IsToggledFrom (take end old) (take next new) column
  pub same_len : length new ≡ length old

-- k is the index of the first of the places that are right of a0, where None is just before the
-- first pel
abbrev pub IsFrom : List ℕ → ℕ → Option ℕ → ℕ → Type 0
IsFrom changes end None k = k ≡ 1
IsFrom changes end (Some a) k = AreChangesUpTo changes end a k
