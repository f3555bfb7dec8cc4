-- Rows that are made of their longest runs.
use Rattle.std.proofs.lemmas.Grind.{common_steps}
use Rattle.std.proofs.Common.{◌≡◌, ℕ, zero, suc, ◌+◌, ◌<◌, ◌≤◌, List, [], ◌∷◌, ◌++◌, length, take, get_or, replicate}
use Rattle.std.proofs.Common.{refl, ap, sym, subst}
use Rattle.std.proofs.Common.{◌∙◌, arith}
use Rattle.std.specs.Prelude.{sum}
use Rattle.std.proofs.lemmas.List.{ext_get_or}
use Rattle.std.proofs.lemmas.List.Sums.{sum_by-take-le}
use Rattle.fax_bits.specs.declared.Colour.{Colour}
use Rattle.fax_bits.specs.declared.Colour.TheVariants.{White, Black}
use Rattle.fax_rows.specs.Rows.{other, pels_of_runs, runs_after, runs_of}
use Rattle.fax_rows.proofs.CodedRunLemmas.{colour_after_runs}
use Rattle.fax_rows.specs.code.LongestRuns.{AreLongest}
use Rattle.fax_rows.specs.code.ChangeLists.{toggled, pels_of_changes, IsToggledFrom}
use Rattle.fax_rows.proofs.PlacedRowLemmas.{toggled-first}
use Rattle.fax_rows.proofs.RowLaws.{length-pels_of_runs}
use Rattle.fax_rows.proofs.RowLemmas.{pels_of_runs-push, colour_after_runs-push}
use Rattle.fax_rows.proofs.TurnLemmas.{length-pels_of_changes, pel-pels_of_changes}
use Rattle.fax_rows.proofs.WrittenLemmas.{pels_of_runs-runs_after}

-- the places so far are those where these runs end
pub record ArePutRuns (runs : List ℕ) (total : ℕ) (changes : List ℕ) : Type 0 where
  pub sum_is : total ≡ sum runs
  pub pels : (k : ℕ) → k < total → toggled Black changes k ≡ get_or (pels_of_runs White runs) k White
  pub after : (k : ℕ) → total ≤ k → toggled Black changes k ≡ colour_after_runs White runs

-- before the first run
pub put_none : (changes : List ℕ) → 0 < length changes → get_or changes 0 0 ≡ 0 → ArePutRuns [] 0 (take 1 changes)
put_none changes some first = grind (arith, toggled-first)

-- one run more
pub put_run : (runs : List ℕ) (total n : ℕ) (old new : List ℕ) → ArePutRuns runs total old
    → IsToggledFrom old new (total + n)
    → ArePutRuns (runs ++ n ∷ []) (total + n) new
put_run runs total n old new put toggle_change = grind (
  arith,
  common_steps,
  pels_of_runs-push,
  colour_after_runs-push,
  length-pels_of_runs,
)

-- the next of the runs
pub put_next_run : (runs : List ℕ) (i total n : ℕ) (old new : List ℕ) → i < length runs → n ≡ get_or runs i 0
    → ArePutRuns (take i runs) total old → IsToggledFrom old new (total + n)
    → ArePutRuns (take (i + 1) runs) (total + n) new
put_next_run runs i total n old new inside is put toggle_change = grind (arith, common_steps, put_run)

-- runs in front are no longer than all together
pub part_within : (runs : List ℕ) (i : ℕ) → sum (take i runs) ≤ sum runs
part_within runs i = sum_by-take-le (λ n. n) runs i

-- all runs of a row
pub put_all_runs : {runs : List ℕ} {total : ℕ} {changes : List ℕ} {width : ℕ} → ArePutRuns runs total changes
    → sum runs ≡ width
    → pels_of_changes width changes ≡ pels_of_runs White runs
put_all_runs {runs = runs} {changes = changes} {width = width} put whole =
    ext_get_or White (pels_of_changes width changes) (pels_of_runs White runs)
    (length-pels_of_changes width changes ∙ sym whole ∙ sym (length-pels_of_runs White runs))
    (λ k h. let inside : k < width = omega (arith, length-pels_of_changes width changes) in
    pel-pels_of_changes width changes k inside ∙ put.pels k (omega (arith, put.sum_is)))

-- pels of the run's colour make it longer
longer : (colour : Colour) (n m : ℕ) (pels : List Colour)
    → runs_after colour n (replicate m colour ++ pels) ≡ runs_after colour (n + m) pels
unfolding runs_after
longer colour n zero pels = ap (λ k. runs_after colour k pels) (omega arith)
longer White n (suc m) pels = grind (arith, longer White (n + 1) m pels)
longer Black n (suc m) pels = longer Black (n + 1) m pels ∙ ap (λ k. runs_after Black k pels) (omega arith)

-- after a run stand the runs of the pels after it, where none of them is 0
runs_follow : (colour : Colour) (n : ℕ) (runs : List ℕ) → ((i : ℕ) → i < length runs → 0 < get_or runs i 0)
    → runs_after colour n (pels_of_runs (other colour) runs) ≡ n ∷ runs
unfolding runs_after
runs_follow colour n [] some = refl
runs_follow colour n (zero ∷ runs) some = absurd (omega (arith, some 0 (omega arith)))
runs_follow White n (suc m ∷ runs) some = grind (
  arith,
  longer,
  runs_follow Black (1 + m) runs
      (λ i h. some (suc i) (omega arith)),
)
runs_follow Black n (suc m ∷ runs) some = grind (
  arith,
  longer,
  runs_follow White (1 + m) runs
      (λ i h. some (suc i) (omega arith)),
)

-- the row of such runs has them as its longest ones
pub longest_are_back : (runs : List ℕ) (width : ℕ) → 0 < width → AreLongest runs width
    → runs_of (pels_of_runs White runs) ≡ runs
longest_are_back [] width some longest = absurd (omega (arith, longest.whole))
longest_are_back (n ∷ runs) width some longest =
    longer White 0 n (pels_of_runs Black runs)
    ∙ runs_follow White (0 + n) runs (λ i h. longest.some (suc i) (omega arith) (omega arith))
    ∙ ap (λ k. k ∷ runs) (omega arith)

-- no run after a whole one is 0
none_is_0 : (colour : Colour) (n : ℕ) (pels : List Colour) → 0 < n → (i : ℕ) → i < length (runs_after colour n pels)
    → 0 < get_or (runs_after colour n pels) i 0
unfolding runs_after
none_is_0 colour n [] some zero h = some
none_is_0 colour n [] some (suc i) h = absurd (omega arith)
none_is_0 White n (White ∷ pels) some i h = none_is_0 White (n + 1) pels (omega arith) i h
none_is_0 Black n (Black ∷ pels) some i h = none_is_0 Black (n + 1) pels (omega arith) i h
none_is_0 White n (Black ∷ pels) some zero h = some
none_is_0 Black n (White ∷ pels) some zero h = some
none_is_0 White n (Black ∷ pels) some (suc i) h = none_is_0 Black 1 pels (omega arith) i (omega arith)
none_is_0 Black n (White ∷ pels) some (suc i) h = none_is_0 White 1 pels (omega arith) i (omega arith)

first_may_be_0 : (colour : Colour) (n : ℕ) (pels : List Colour) (i : ℕ) → 0 < i → i < length (runs_after colour n pels)
    → 0 < get_or (runs_after colour n pels) i 0
unfolding runs_after
first_may_be_0 colour n [] zero some h = absurd (omega arith)
first_may_be_0 colour n [] (suc i) some h = absurd (omega arith)
first_may_be_0 White n (White ∷ pels) i some h = first_may_be_0 White (n + 1) pels i some h
first_may_be_0 Black n (Black ∷ pels) i some h = first_may_be_0 Black (n + 1) pels i some h
first_may_be_0 White n (Black ∷ pels) zero some h = absurd (omega arith)
first_may_be_0 Black n (White ∷ pels) zero some h = absurd (omega arith)
first_may_be_0 White n (Black ∷ pels) (suc i) some h = none_is_0 Black 1 pels (omega arith) i (omega arith)
first_may_be_0 Black n (White ∷ pels) (suc i) some h = none_is_0 White 1 pels (omega arith) i (omega arith)

-- the runs of a row are such
pub runs_are_longest : (row : List Colour) → AreLongest (runs_of row) (length row)
runs_are_longest row = record {
  whole = sym (length-pels_of_runs White (runs_of row)) ∙ ap (λ (xs : List Colour). length xs)
      (pels_of_runs-runs_after White 0 row);
  some = first_may_be_0 White 0 row;
}

-- and so of any row of this width with these runs
pub longest_of : (row : List Colour) (runs : List ℕ) (width : ℕ) → length row ≡ width → runs_of row ≡ runs
    → AreLongest runs width
longest_of row runs width same is =
    subst (λ n. AreLongest runs n) same (subst (λ ns. AreLongest ns (length row)) is (runs_are_longest row))
