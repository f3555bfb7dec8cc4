-- A row that is written is read back.
use Rattle.std.proofs.lemmas.Grind.{common_steps}
use Rattle.std.proofs.Common.{◌≡◌, ◌≢◌, ℕ, zero, suc, ◌+◌, ◌^◌, ◌<◌, ◌≤◌, List, [], ◌∷◌, ◌++◌, length, take, replicate}
use Rattle.std.proofs.Common.{Bool}
use Rattle.std.proofs.Common.{refl, ap, sym, ◌∙◌, subst, arith, inl, inr, append_assoc}
use Rattle.std.specs.Prelude.{sum, Option, Some, None}
use Rattle.std.proofs.lemmas.Bool.{cases_lt}
use Rattle.std.proofs.lemmas.List.{replicate-append-replicate}
use Rattle.fax_bits.specs.declared.Colour.{Colour}
use Rattle.fax_bits.specs.declared.Colour.TheVariants.{White, Black}
use Rattle.fax_bits.specs.declared.mode_codes.ModeCode.{ModeCode}
use Rattle.fax_bits.specs.Codes.{Decodes}
use Rattle.fax_bits.specs.laws.Codes.{RunBitsAreRead, ModeBitsAreRead}
use Rattle.fax_bits.specs.Written.{mode_bits}
use Rattle.fax_bits.specs.Tables.{modes}
use Rattle.fax_rows.specs.Rows.{other, pels_of_runs, runs_after, runs_of, Position}
use Rattle.fax_rows.specs.laws.Rows.{HasWidth}
use Rattle.fax_rows.specs.Coded.{step_bits, two_dimensional_bits, alternating_bits}
use Rattle.fax_rows.specs.code.Choice.{changes, colour_of, canonical_mode, run_pair_bits, next_a0}
use Rattle.fax_rows.proofs.ChangeLemmas.{first_of}
use Rattle.fax_rows.proofs.RowLaws.{length-pels_of_runs}
use Rattle.std.proofs.Common.{◌-◌, append-nil}
use Rattle.fax_bits.specs.Written.{run_bits}
use Rattle.fax_rows.specs.laws.Rows.{OneDimensionalBitsAreRead}
use Rattle.std.proofs.lemmas.List.{take_all}
use Rattle.fax_bits.specs.Reading.{read}
use Rattle.fax_rows.specs.ReadRows.{Runs, read_runs, read_steps, read_two_dimensional}
use Rattle.fax_rows.proofs.StepReadLemmas.{a_step, ended, at_width}
use Rattle.fax_rows.proofs.RowRuleLemmas.{runs_to, length-runs_to, a_run, all_runs}
use Rattle.fax_rows.proofs.RunReadLemmas.{sum-cons, run_read}
use Rattle.fax_rows.proofs.ChoiceLemmas.{here, passed, colour_after, IsChosen, chosen}

-- the row is read on to its end
abbrev IsWrittenBack : List Colour → List Colour → Position → List Bool → List Bool → Type 0
IsWrittenBack reference row from b more =
    read_steps reference from b ≡ read row more

-- no step is written at the row's end
pub step_bits-end : (limit : ℕ) (reference row : List Colour) (a0 : Option ℕ) → first_of a0 ≡ length row
    → step_bits limit reference row a0 ≡ []
unfolding step_bits
step_bits-end zero reference row a0 done = refl
step_bits-end (suc limit) reference row a0 done = grind (arith, common_steps)

-- elsewhere a step is written, and those after it
pub step_bits-more : (limit : ℕ) (reference row : List Colour) (a0 : Option ℕ) → first_of a0 < length row
    → step_bits (suc limit) reference row a0
    ≡ mode_bits (canonical_mode (changes reference row a0)) ++ run_pair_bits (canonical_mode (changes reference row a0))
    row a0
    (changes reference row a0)
    ++ step_bits limit reference row (Some (next_a0 (canonical_mode (changes reference row a0)) (changes reference row
    a0)))
unfolding step_bits
step_bits-more limit reference row a0 unfinished = grind (arith, common_steps)

not_at_width : (a0 : Option ℕ) (width : ℕ) → first_of a0 < width → a0 ≢ Some width
not_at_width a0 width before same = omega (arith, ap first_of same)

still_short : (a0 : Option ℕ) (width limit : ℕ) → width + 1 ≤ passed a0 + limit → limit ≡ 0 → first_of a0 ≤ width
    → first_of a0 ≡ width
still_short None width limit enough none within = absurd (omega arith)
still_short (Some a) width limit enough none within = omega arith

module _ (runs_read : RunBitsAreRead) (modes_taken : ModeBitsAreRead) (reference row : List Colour)
    (same_width : length reference ≡ length row)
    (limits : HasWidth row) where
  back_at_end : (a0 : Option ℕ) (colour : Colour) (limit : ℕ) (more : List Bool) → first_of a0 ≡ length row
      → IsWrittenBack reference row (here row a0 colour) (step_bits limit reference row a0 ++ more) more
  back_at_end a0 colour limit more end =
      let bits : step_bits limit reference row a0 ++ more ≡ more =
      ap (λ c. c ++ more) (step_bits-end limit reference row a0 end) in
      ap (read_steps reference (here row a0 colour)) bits
      ∙ ended reference (here row a0 colour) more
      (at_width a0 (length reference) (omega (arith, end, same_width)) (omega (arith, limits.some, same_width)))
      ∙ ap (λ pels. read pels more) (take_all (first_of a0) row (omega (arith, end)))

  -- the place and the mode of the step from a0
  abbrev mode_at : Option ℕ → ModeCode
  mode_at a0 = canonical_mode (changes reference row a0)

  abbrev next_at : Option ℕ → ℕ
  next_at a0 = next_a0 (mode_at a0) (changes reference row a0)

  bits_of_step : (limit : ℕ) (a0 : Option ℕ) (more : List Bool) → first_of a0 < length row
      → step_bits (suc limit) reference row a0 ++ more
      ≡ mode_bits (mode_at a0) ++ (run_pair_bits (mode_at a0) row a0 (changes reference row a0)
      ++ (step_bits limit reference row
      (Some (next_at a0)) ++ more))
  bits_of_step limit a0 more unfinished = grind (arith, common_steps, step_bits-more, append_assoc)

  back_by_step : (limit : ℕ) (a0 : Option ℕ) (more : List Bool) → first_of a0 < length row
      → (rest : List Bool) → rest ≡ step_bits limit reference row (Some (next_at a0)) ++ more
      → (step : IsChosen reference row a0 rest (mode_at a0))
      → IsWrittenBack reference row (here row (Some (next_at a0)) (colour_after (mode_at a0) (colour_of row a0))) rest
      more
      → IsWrittenBack reference row (here row a0 (colour_of row a0)) (step_bits (suc limit) reference row a0 ++ more)
      more
  back_by_step limit a0 more unfinished rest rest_is step back =
      let next = here row (Some (next_at a0)) (colour_after (mode_at a0) (colour_of row a0)) in
      a_step reference (here row a0 (colour_of row a0)) (step_bits (suc limit) reference row a0 ++ more) next rest
      (λ same. not_at_width a0 (length row) unfinished (same ∙ ap (λ n. Some n) same_width))
      (record {
        mode = mode_at a0;
        after = run_pair_bits (mode_at a0) row a0 (changes reference row a0) ++ rest;
        taken = subst (λ b. Decodes modes b (mode_at a0) (run_pair_bits (mode_at a0) row a0 (changes reference row a0)
            ++ rest))
            (ap (λ b. mode_bits (mode_at a0) ++ (run_pair_bits (mode_at a0) row a0 (changes reference row a0) ++ b))
            rest_is
            ∙ sym (bits_of_step limit a0 more unfinished))
            (modes_taken (mode_at a0) _ step.written);
        step = step.step;
      })
      ∙ back

  pub steps_back : (limit : ℕ) (a0 : Option ℕ) (colour : Colour) (more : List Bool) → first_of a0 ≤ length row
      → length row + 1 ≤ passed a0 + limit → (first_of a0 < length row → colour ≡ colour_of row a0)
      → IsWrittenBack reference row (here row a0 colour) (step_bits limit reference row a0 ++ more) more
  steps_back zero a0 colour more within enough coloured =
      back_at_end a0 colour zero more (still_short a0 (length row) zero enough refl within)
  steps_back (suc limit) a0 colour more within enough coloured =
      elim (cases_lt (first_of a0) (length row)) [
        | inr over ↦ back_at_end a0 colour (suc limit) more (omega arith)
        | inl unfinished ↦
            let rest = step_bits limit reference row (Some (next_at a0)) ++ more in
            let step = chosen reference row same_width a0 unfinished runs_read limits rest in
            let back = steps_back limit (Some (next_at a0)) (colour_after (mode_at a0) (colour_of row a0)) more
            step.within (omega (arith, step.right)) step.colour in
            subst (λ c. IsWrittenBack reference row (here row a0 c) (step_bits (suc limit) reference row a0 ++ more)
            more)
            (sym (coloured unfinished)) (back_by_step limit a0 more unfinished rest refl step back)
      ]

  -- a row in two-dimensional coding is read back
  pub two_dimensional_back : (more : List Bool)
      → read_two_dimensional reference (two_dimensional_bits reference row ++ more) ≡ read row more
  two_dimensional_back more =
      steps_back (length row + 1) None White more (omega arith) (omega arith) (λ h. refl)

replicate_more : (n : ℕ) (colour : Colour) (pels : List Colour)
    → replicate (n + 1) colour ++ pels ≡ replicate n colour ++ (colour ∷ pels)
replicate_more n colour pels = rw (← replicate-append-replicate n 1 colour)
    (append_assoc (replicate n colour) (colour ∷ []) pels)

-- the longest runs make up the pels
pub pels_of_runs-runs_after : (colour : Colour) (n : ℕ) (pels : List Colour)
    → pels_of_runs colour (runs_after colour n pels) ≡ replicate n colour ++ pels
unfolding runs_after
pels_of_runs-runs_after colour n [] = refl
pels_of_runs-runs_after White n (White ∷ pels) =
    pels_of_runs-runs_after White (n + 1) pels ∙ replicate_more n White pels
pels_of_runs-runs_after Black n (Black ∷ pels) =
    pels_of_runs-runs_after Black (n + 1) pels ∙ replicate_more n Black pels
pels_of_runs-runs_after White n (Black ∷ pels) = ap (λ more. replicate n White
    ++ more) (pels_of_runs-runs_after Black 1 pels)
pels_of_runs-runs_after Black n (White ∷ pels) = ap (λ more. replicate n Black
    ++ more) (pels_of_runs-runs_after White 1 pels)

-- no fewer of them do
fewer_runs : (colour : Colour) (n : ℕ) (pels : List Colour) → 0 < n + length pels
    → (k : ℕ) → k < length (runs_after colour n pels) → sum (take k (runs_after colour n pels)) < n + length pels
unfolding runs_after
fewer_runs colour n [] some zero h = omega arith
fewer_runs colour n [] some (suc k) h = absurd (omega arith)
fewer_runs White n (White ∷ pels) some k h = omega (arith, fewer_runs White (n + 1) pels (omega arith) k h)
fewer_runs Black n (Black ∷ pels) some k h = omega (arith, fewer_runs Black (n + 1) pels (omega arith) k h)
fewer_runs White n (Black ∷ pels) some zero h = omega arith
fewer_runs Black n (White ∷ pels) some zero h = omega arith
fewer_runs White n (Black ∷ pels) some (suc k) h =
    omega (arith, fewer_runs Black 1 pels (omega arith) k (omega arith), sum-cons n (take k (runs_after Black 1 pels)))
fewer_runs Black n (White ∷ pels) some (suc k) h =
    omega (arith, fewer_runs White 1 pels (omega arith) k (omega arith), sum-cons n (take k (runs_after White 1 pels)))

-- written runs are read back after the pels before them
runs_back : RunBitsAreRead → (at : Runs) (width : ℕ) (runs : List ℕ) (more : List Bool)
    → length at.pels + sum runs ≡ width → width < 2 ^ 16
    → ((k : ℕ) → k < length runs → length at.pels + sum (take k runs) < width)
    → read_runs width at (alternating_bits at.colour runs ++ more) ≡ read (at.pels ++ pels_of_runs at.colour runs) more
unfolding alternating_bits
runs_back runs_read at width [] more whole short below =
    all_runs width at more (omega (arith, whole)) ∙ ap (λ pels. read pels more) (sym (append-nil at.pels))
runs_back runs_read at width (n ∷ runs) more whole short below =
    let from = length at.pels in
    let rest = alternating_bits (other at.colour) runs ++ more in
    let b : alternating_bits at.colour (n ∷ runs) ++ more ≡ run_bits at.colour n ++ rest =
    append_assoc (run_bits at.colour n) (alternating_bits (other at.colour) runs) more in
    let run = run_read width from n (runs_read at.colour n rest (omega (arith, whole, sum-cons n runs)))
    (omega (arith, whole, sum-cons n runs)) in
    let next = runs_to at (from + n) in
    let long : length next.pels ≡ from + n = length-runs_to at (from + n) (omega arith) in
    let back = runs_back runs_read next width runs more (omega (arith, long, whole, sum-cons n runs)) short
    (λ k h. omega (arith, long, below (suc k) (omega arith), sum-cons n (take k runs))) in
    let count : from + n - from ≡ n = omega arith in
    let pels : next.pels ++ pels_of_runs (other at.colour) runs ≡ at.pels ++ pels_of_runs at.colour (n ∷ runs) =
    append_assoc at.pels (replicate (from + n - from) at.colour) (pels_of_runs (other at.colour) runs)
    ∙ ap (λ k. at.pels ++ (replicate k at.colour ++ pels_of_runs (other at.colour) runs)) count in
    ap (read_runs width at) b
    ∙ a_run width at (from + n) (run_bits at.colour n ++ rest) rest (omega (arith, below zero (omega arith))) run.0
    ∙ back ∙ ap (λ row. read row more) pels

-- a row in one-dimensional coding is read back
pub one_dimensional_back : RunBitsAreRead → OneDimensionalBitsAreRead
one_dimensional_back runs_read row more limits =
    let pels : row ≡ pels_of_runs White (runs_of row) = sym (pels_of_runs-runs_after White 0 row) in
    let sum_is : sum (runs_of row) ≡ length row =
    sym (length-pels_of_runs White (runs_of row)) ∙ ap (λ (xs : List Colour). length xs) (sym pels) in
    runs_back runs_read (record { pels = []; colour = White }) (length row) (runs_of row) more (omega (arith, sum_is))
    limits.short
    (λ k h. omega (arith, fewer_runs White 0 row (omega (arith, limits.some)) k h))
    ∙ ap (λ r. read r more) (sym pels)
