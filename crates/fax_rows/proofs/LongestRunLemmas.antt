-- The longest runs that are still to come, by the place where they begin and those where each ends.
use Rattle.std.proofs.Common.{◌≡◌, ℕ, zero, suc, ◌+◌, ◌-◌, ◌%◌, ◌<◌, ◌≤◌, List, [], ◌∷◌, length, take, drop, get_or}
use Rattle.std.proofs.Common.{map, refl, ap, sym, ◌∙◌}
use Rattle.std.proofs.Common.{arith, length-drop}
use Rattle.std.proofs.Math.Seq.{take-length}
use lib.Lanes.{zip2, Each1}
use Rattle.fax_rows.specs.code.LongestRuns.{gaps, runs_between, AreAheadOf, AreBounds}
use Rattle.fax_rows.proofs.RowRunLemmas.{ahead_of_next, length-gaps}

-- what is left of a list is all of what is left
pub rest_is : (xs : List ℕ) (n : ℕ) → take (length xs - n) (drop n xs) ≡ drop n xs
rest_is xs n = ap (λ k. take k (drop n xs)) (sym (length-drop n xs)) ∙ take-length (drop n xs)

-- the places of a row, from its first pel on
pub row_bounds : (changes : List ℕ) (end : ℕ) → 0 < length changes → get_or changes 0 0 ≡ 0
    → take (end + 1) changes ≡ 0 ∷ take end (drop 1 changes)
row_bounds changes end some first = grind arith

pub are_bounds : (ends : List ℕ) → AreAheadOf 0 ends → AreBounds (0 ∷ ends)
are_bounds ends ahead = record { some = omega arith; ahead = ahead }

-- there is a run for each place but the first
pub length-runs_between : (changes : List ℕ) → length (runs_between changes) ≡ length changes - 1
length-runs_between changes = grind (arith, length-gaps)

-- some runs are left out
pub skip_bounds : (changes : List ℕ) (n : ℕ) → n < length changes → AreBounds changes → AreBounds (drop n changes)
skip_bounds [] n within all = absurd (omega arith)
skip_bounds (from ∷ ends) zero within all = all
skip_bounds (from ∷ []) (suc n) within all = absurd (omega arith)
skip_bounds (from ∷ next ∷ ends) (suc n) within all =
    skip_bounds (next ∷ ends) n (omega arith) (record {
      some = omega arith;
      ahead =
          ahead_of_next from next ends all.ahead;
    })

pub skip_runs : (changes : List ℕ) (n : ℕ) → n < length changes
    → runs_between (drop n changes) ≡ drop n (runs_between changes)
skip_runs [] n within = absurd (omega arith)
skip_runs (from ∷ ends) zero within = refl
skip_runs (from ∷ []) (suc n) within = absurd (omega arith)
skip_runs (from ∷ next ∷ ends) (suc n) within = skip_runs (next ∷ ends) n (omega arith)

-- a lane's subtraction, of a place from one that is no less
pub lane_is : (a b : ℕ) → b ≤ a → a < 65536 → (a + (4294967296 - b)) % 4294967296 ≡ a - b
lane_is a b right remaining = omega arith

-- the first runs, in lanes
module _ (sub : ℕ → ℕ → ℕ) (cast : ℕ → ℕ) (is : (a b : ℕ) → b ≤ a → a < 65536 → cast (sub a b) ≡ a - b) where
  gaps_in_lanes : (n from : ℕ) (ends : List ℕ) → n ≤ length ends → AreAheadOf from ends
      → map cast (zip2 sub (take n ends) (take n (from ∷ ends))) ≡ take n (gaps from ends)
  gaps_in_lanes zero from ends within all = refl
  gaps_in_lanes (suc n) from [] within all = absurd (omega arith)
  gaps_in_lanes (suc n) from (next ∷ ends) within all =
      ap (λ run. run ∷ map cast (zip2 sub (take n ends) (take n (next ∷ ends))))
      (is next from (all.right 0 (omega arith)) (all.below 0 (omega arith)))
      ∙ ap (λ runs. (next - from) ∷ runs) (gaps_in_lanes n next ends (omega arith) (ahead_of_next from next ends all))

  pub runs_in_lanes : (n : ℕ) (changes : List ℕ) → n < length changes → AreBounds changes
      → map cast (zip2 sub (take n (drop 1 changes)) (take n changes)) ≡ take n (runs_between changes)
  runs_in_lanes n changes within all = grind (arith, gaps_in_lanes)

-- each of them fits a lane
module _ (P : ℕ → Type 0) (sub : ℕ → ℕ → ℕ) (fits : (a b : ℕ) → b ≤ a → a < 65536 → P (sub a b)) where
  gaps_fit : (n from : ℕ) (ends : List ℕ) → n ≤ length ends → AreAheadOf from ends
      → Each1 P (zip2 sub (take n ends) (take n (from ∷ ends)))
  gaps_fit zero from ends within all = tt
  gaps_fit (suc n) from [] within all = absurd (omega arith)
  gaps_fit (suc n) from (next ∷ ends) within all = (
    fits next from (all.right 0 (omega arith)) (all.below 0 (omega arith)),
    gaps_fit n next ends (omega arith)
        (ahead_of_next from next ends all),
  )

  pub runs_fit : (n : ℕ) (changes : List ℕ) → n < length changes → AreBounds changes
      → Each1 P (zip2 sub (take n (drop 1 changes)) (take n changes))
  runs_fit n changes within all = grind (arith, gaps_fit)
