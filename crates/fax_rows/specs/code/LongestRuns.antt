-- The longest runs of a row: those that are still to come, and those that are given.
use Rattle.std.specs.Prelude.{◌≡◌, ℕ, ◌+◌, ◌-◌, ◌<◌, ◌≤◌, ◌^◌, List, [], ◌∷◌, length, slice_index}
use Rattle.std.specs.Prelude.{drop, sum}

-- how far it is from a place to the first of these, and from each of them to the next
abbrev pub gaps : ℕ → List ℕ → List ℕ
gaps from [] = []
gaps from (column ∷ changes) = (column - from) ∷ gaps column changes

-- the ends of runs ascend from a place on, no more of them than a row can have
pub record AreAheadOf (from : ℕ) (ends : List ℕ) : Type 0 where
  pub few : length ends ≤ 2 ^ 16
  pub right : (i : ℕ) → i < length ends → from ≤ slice_index ends i
  pub below : (i : ℕ) → i < length ends → slice_index ends i < 2 ^ 16
  pub steps : (i : ℕ) → i + 1 < length ends → slice_index ends i ≤ slice_index ends (i + 1)

-- the runs between the place where the first begins and those where each ends
abbrev pub runs_between : List ℕ → List ℕ
runs_between [] = []
runs_between (from ∷ ends) = gaps from ends

-- a place and the ends of runs after it
pub record AreBounds (changes : List ℕ) : Type 0 where
  pub some : 0 < length changes
  pub ahead : AreAheadOf (slice_index changes 0) (drop 1 changes)

-- these are the longest runs of a row of this width: together they are as long, and the first alone
-- may be 0
pub record AreLongest (runs : List ℕ) (width : ℕ) : Type 0 where
  pub whole : sum runs ≡ width
  pub some : (i : ℕ) → 0 < i → i < length runs → 0 < slice_index runs i
