-- Steps in vertical mode that are read together.
use Rattle.std.specs.Prelude.{◌≡◌, ℕ, ◌+◌, ◌-◌, ◌<◌, ◌≤◌, true, Option, Some, List, [], ◌∷◌}
use Rattle.std.specs.Prelude.{slice_index, length, ◌^◌}
use Rattle.fax_rows.specs.Rows.{is_right_of}

-- the places from the index `end` on are those of a1 in vertical modes, over the changes of the
-- reference row from the index b on: each is right of the one before, not left of the change before
-- its b1, and left of the change after it (T.4, section 4.2.1.3.2)
abbrev pub AreVerticalTargets : List ℕ → List ℕ → Option ℕ → ℕ → ℕ → List ℕ → Type 0
AreVerticalTargets others changes a0 end b [] = Unit {0}
AreVerticalTargets others changes a0 end b (raised ∷ biased_offsets) =
    (is_right_of a0 (slice_index changes end) ≡ true)
    × (slice_index changes end + 3 ≡ slice_index others b + raised)
    × (slice_index others (b - 1) ≤ slice_index changes end)
    × (slice_index changes end < slice_index others (b + 1))
    × AreVerticalTargets others changes (Some (slice_index changes end)) (end + 1) (b + 1)
    biased_offsets

-- four lanes, none of which has its highest bit
pub record AreFour (lanes : List ℕ) : Type 0 where
  pub length : length lanes ≡ 4
  pub small : (i : ℕ) → i < 4 → slice_index lanes i < 2 ^ 31
