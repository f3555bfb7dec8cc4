-- The longest runs of a row, pel by pel.
use Rattle.std.proofs.lemmas.Grind.{common_steps}
use Rattle.std.proofs.Common.{◌≡◌, ◌≢◌, ℕ, zero, suc, ◌+◌, ◌-◌, ◌<◌, ◌≤◌, List, [], ◌∷◌, ◌++◌, length, take, drop}
use Rattle.std.proofs.Common.{get_or, Bool}
use Rattle.std.proofs.Common.{refl, ap, sym, ◌∙◌, subst, arith, inl, inr, get_or-drop, length-drop}
use Rattle.std.proofs.lemmas.List.{take_more, length-take-le}
use Rattle.fax_bits.specs.declared.Colour.{Colour}
use Rattle.fax_bits.specs.declared.Colour.TheVariants.{White}
use Rattle.std.specs.List.{filter, range_with_len}
use Rattle.fax_rows.specs.Rows.{other, pel_before, is_changing, runs_after, runs_of}
use Rattle.fax_rows.specs.code.LongestRuns.{gaps, AreAheadOf}
use Rattle.fax_rows.specs.code.ChangeLists.{AreChanges}
use Rattle.std.proofs.lemmas.Bool.{cases_lt}
use Rattle.fax_rows.proofs.PlacedRowLemmas.{at_end, end_within}

-- after the last pel stands the run so far
pub runs_after-nil : (colour : Colour) (n : ℕ) → runs_after colour n [] ≡ n ∷ []
unfolding runs_after
runs_after-nil colour n = refl

-- a pel of the run's colour
runs_after-same : (colour first : Colour) (n : ℕ) (pels : List Colour) → first ≡ colour
    → runs_after colour n (first ∷ pels) ≡ runs_after colour (n + 1) pels
unfolding runs_after
runs_after-same colour first n pels same = grind arith

-- a pel of the other colour
runs_after-other : (colour first : Colour) (n : ℕ) (pels : List Colour) → first ≢ colour
    → runs_after colour n (first ∷ pels) ≡ n ∷ runs_after first 1 pels
unfolding runs_after
runs_after-other colour first n pels other = grind arith

-- the pel at place i is of the run's colour
pub goes_on : (colour first : Colour) (n i : ℕ) (pels : List Colour) → i < length pels → get_or pels i White ≡ first
    → first ≡ colour
    → runs_after colour n (drop i pels) ≡ runs_after colour (n + 1) (drop (i + 1) pels)
goes_on colour first n i pels within at same = grind (arith, common_steps, runs_after-same)

-- it is of the other colour, so that a run ends before it
pub turns : (colour first : Colour) (n i : ℕ) (pels : List Colour) → i < length pels → get_or pels i White ≡ first
    → first ≢ colour
    → runs_after colour n (drop i pels) ≡ n ∷ runs_after first 1 (drop (i + 1) pels)
turns colour first n i pels within at other = grind (arith, common_steps, runs_after-other)

-- how far it is from a place to each of the next ones, and at last to the width
gaps_to : ℕ → List ℕ → ℕ → List ℕ
gaps_to from [] width = (width - from) ∷ []
gaps_to from (column ∷ changes) width = (column - from) ∷ gaps_to column changes width

gaps_to-gaps : (from : ℕ) (elements : List ℕ) (width : ℕ) → gaps from (elements ++ width ∷ [])
    ≡ gaps_to from elements width
unfolding gaps_to
gaps_to-gaps from [] width = refl
gaps_to-gaps from (next ∷ elements) width = ap (λ runs. (next - from) ∷ runs) (gaps_to-gaps next elements width)

-- the gaps between the changing elements after place i
abbrev GapsFrom : List Colour → ℕ → ℕ → ℕ → Type 0
GapsFrom row n i from =
    gaps_to from (filter (is_changing row) (range_with_len i n)) (length row)
    ≡ runs_after (pel_before row i) (i - from) (drop i row)

-- one place more
gaps_more : (row : List Colour) (n i from : ℕ) (b : Bool) → is_changing row i ≡ b → i < length row → from ≤ i
    → ((next : ℕ) → next ≤ i + 1 → GapsFrom row n (i + 1) next) → GapsFrom row (suc n) i from
unfolding gaps_to
gaps_more row n i from b is inside order more = grind (arith, turns, goes_on)

-- they are the remaining runs
gaps_from : (row : List Colour) (n i from : ℕ) → from ≤ i → i + n ≡ length row → GapsFrom row n i from
unfolding gaps_to
gaps_from row zero i from order all = grind (arith, common_steps, runs_after-nil)
gaps_from row (suc n) i from order all =
    gaps_more row n i from (is_changing row i) refl (omega arith) order
    (λ next near. gaps_from row n (i + 1) next near (omega arith))

-- the gaps between the changing elements of a row, and up to its width, are its runs
pub gaps_are_runs : (row : List Colour) (elements : List ℕ) (width : ℕ)
    → elements ≡ filter (is_changing row) (range_with_len 0 (length row)) → width ≡ length row
    → gaps 0 (elements ++ width ∷ []) ≡ runs_of row
gaps_are_runs row elements width is wide = grind (arith, gaps_to-gaps, gaps_from)

-- as many as there are ends
pub length-gaps : (from : ℕ) (ends : List ℕ) → length (gaps from ends) ≡ length ends
length-gaps from [] = refl
length-gaps from (next ∷ ends) = omega (arith, length-gaps next ends)

-- each place further on is no less
ascend_on : (next : ℕ) (elements : List ℕ)
    → ((i : ℕ) → i + 1 < length (next ∷ elements) → get_or (next ∷ elements) i 0 ≤ get_or (next ∷ elements) (i + 1) 0)
    → (i : ℕ) → i < length elements → get_or (next ∷ elements) i 0 ≤ get_or elements i 0
ascend_on next elements up i h = grind (arith, common_steps)

below_all : (next : ℕ) (elements : List ℕ) → ((i : ℕ) → i < length elements
    → get_or (next ∷ elements) i 0 ≤ get_or elements i 0)
    → (i : ℕ) → i < length elements → next ≤ get_or elements i 0
below_all next elements up zero h = up 0 h
below_all next elements up (suc i) h = grind (arith, below_all next elements up i (omega arith))

-- the places after the next one are ahead of it
pub ahead_of_next : (from next : ℕ) (ends : List ℕ) → AreAheadOf from (next ∷ ends) → AreAheadOf next ends
ahead_of_next from next ends all =
    let up = ascend_on next ends all.steps in
    record {
      few = omega (arith, all.few);
      right = below_all next ends up;
      below = λ i h. all.below (suc i) (omega arith);
      steps = λ i h.
          let same : i + 1 ≡ suc i = omega arith in
          subst (λ k. get_or ends i 0 ≤ get_or ends k 0) (sym same) (up (suc i) (omega arith));
    }

-- the changes of a row, and its width, are ahead of its first pel
module _ {changes : List ℕ} {end width : ℕ} (all : AreChanges changes end width) where
  few_ends : length (take end (drop 1 changes)) ≡ end
  few_ends = length-take-le end (drop 1 changes) (omega (arith, length-drop 1 changes, all.room, end_within all))

  end_at : (i j : ℕ) → i + 1 ≡ j → i < end → get_or (take end (drop 1 changes)) i 0 ≡ get_or changes j 0
  end_at i j at within = grind (arith, common_steps)

  pub ahead_of_row : AreAheadOf 0 (take end (drop 1 changes))
  ahead_of_row = record {
    few = omega (arith, few_ends, all.short, end_within all);
    right = λ i h. omega arith;
    below = λ i h.
        let inside : i < end = omega (arith, few_ends) in
        omega (arith, end_at i (i + 1) refl inside, all.short, not_after (i + 1) (omega arith) (omega arith));
    steps = λ i h.
        let inside : i + 1 < end = omega (arith, few_ends) in
        let step : get_or changes (i + 1) 0 ≤ get_or changes (i + 1 + 1) 0 = elim (cases_lt (i + 1 + 1) end) [
          | inl less ↦ omega (arith, all.ascending.steps (i + 1) (omega arith) less)
          | inr last ↦
              let same : i + 1 + 1 ≡ end = omega arith in
              omega (
                arith,
                not_after (i + 1) (omega arith) (omega arith),
                ap (λ k. get_or changes k 0) same,
                at_end
                    all,
              )
        ] in
        omega (arith, end_at i (i + 1) refl (omega arith), end_at (i + 1) (i + 1 + 1) refl inside, step);
  }
    where
      not_after : (k : ℕ) → 0 < k → k ≤ end → get_or changes k 0 ≤ width
      not_after k some within =
          elim (cases_lt k end) [
            | inl less ↦ omega (arith, all.below k some less)
            | inr last ↦ let same : k ≡ end = omega arith in omega (
              arith,
              ap (λ j. get_or changes j 0) same,
              at_end
                  all,
            )
          ]

  -- the width stands after the changes
  pub ends_are : take end (drop 1 changes) ≡ take (end - 1) (drop 1 changes) ++ width ∷ []
  ends_are =
      let next : end - 1 + 1 ≡ end = omega (arith, all.ascending.started) in
      let last : get_or (drop 1 changes) (end - 1) 0 ≡ width =
      get_or-drop 1 changes (end - 1) 0 ∙ ap (λ k. get_or changes k 0) (let same : 1 + (end - 1) ≡ end =
      omega (arith, all.ascending.started) in same) ∙ at_end all in
      ap (λ n. take n (drop 1 changes)) (sym next)
      ∙ take_more (drop 1 changes) (end - 1) 0 (omega (
        arith,
        next,
        length-drop 1 changes,
        all.ascending.within,
        all.room,
        end_within all,
      )) ∙ ap (λ n. take (end - 1) (drop 1 changes) ++ n ∷ []) last
