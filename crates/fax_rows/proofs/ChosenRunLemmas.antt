-- A row in one-dimensional coding that is read by its longest runs has the bits that are written.
use Rattle.std.proofs.lemmas.Grind.{common_steps}
use Rattle.std.proofs.Common.{◌≡◌, ℕ, ◌-◌, ◌<◌, ◌≤◌, ◌^◌, List, [], ◌∷◌, ◌++◌, length, get_or, Bool, refl, ap, sym, ◌∙◌}
use Rattle.std.proofs.Common.{arith, inl, inr, append_assoc, append-nil}
use Rattle.std.specs.Prelude.{◌⊎◌, sum}
use Rattle.fax_bits.specs.declared.Colour.{Colour}
use Rattle.fax_bits.specs.declared.Colour.TheVariants.{White}
use Rattle.fax_bits.specs.Written.{run_bits}
use Rattle.fax_rows.specs.Coded.{alternating_bits, one_dimensional_bits}
use Rattle.fax_rows.specs.Rows.{other, pels_of_runs, runs_of}
use Rattle.fax_rows.proofs.CodedRunLemmas.{colour_after_runs}
use Rattle.fax_rows.specs.laws.Rows.{OneDimensionalBitsAreRead}
use Rattle.fax_bits.specs.Reading.{read}
use Rattle.fax_bits.proofs.StepsLemmas.{one_answer}
use Rattle.fax_rows.specs.ReadRows.{read_one_dimensional}
use Rattle.fax_rows.proofs.GivenRunLemmas.{longest_are_back}
use Rattle.fax_rows.proofs.RowLaws.{length-pels_of_runs}
use Rattle.fax_rows.proofs.RowLemmas.{colour_after_runs-push}
use Rattle.fax_rows.proofs.RunReadLemmas.{sum-cons}
use Rattle.fax_rows.proofs.RunLemmas.{sum-push}

-- the bits begin with those of runs, of which the first alone may have no pels
pub record AreWrittenRuns (b : List Bool) (total : ℕ) (colour : Colour) (rest : List Bool) : Type 0 where
  pub runs : List ℕ
  pub bits : b ≡ alternating_bits White runs ++ rest
  pub sum_is : total ≡ sum runs
  pub colour_is : colour ≡ colour_after_runs White runs
  pub some : (i : ℕ) → 0 < i → i < length runs → 0 < get_or runs i 0

pub runs_begin : (b : List Bool) → AreWrittenRuns b 0 White b
unfolding alternating_bits
runs_begin b = record { runs = []; bits = refl; sum_is = refl; colour_is = refl; some = λ i h l. absurd (omega arith) }

alternating-push : (colour : Colour) (runs : List ℕ) (n : ℕ)
    → alternating_bits colour (runs ++ n ∷ []) ≡ alternating_bits colour runs
    ++ run_bits (colour_after_runs colour runs) n
unfolding alternating_bits
alternating-push colour [] n = append-nil (run_bits colour n)
alternating-push colour (m ∷ runs) n = grind (arith, common_steps, alternating-push (other colour) runs n)

-- only the first run has none before it
first_alone : (runs : List ℕ) → sum runs ≡ 0 → colour_after_runs White runs ≡ White
    → ((i : ℕ) → 0 < i → i < length runs → 0 < get_or runs i 0)
    → length runs ≡ 0
first_alone [] none colour some = refl
first_alone (n ∷ []) none colour some = cc
first_alone (n ∷ m ∷ runs) none colour some =
    absurd (omega (arith, some 1 (omega arith) (omega arith), sum-cons n (m ∷ runs), sum-cons m runs))

-- each run but the first has pels still
some_push : (runs : List ℕ) (n : ℕ) → ((i : ℕ) → 0 < i → i < length runs → 0 < get_or runs i 0)
    → (0 < n) ⊎ (length runs ≡ 0)
    → (i : ℕ) → 0 < i → i < length (runs ++ n ∷ []) → 0 < get_or (runs ++ n ∷ []) i 0
some_push runs n some fits i h l = grind (arith, common_steps)

pub runs_go_on : (b : List Bool) (total column : ℕ) (colour : Colour) (mid rest : List Bool)
    → AreWrittenRuns b total colour mid
    → total ≤ column → mid ≡ run_bits colour (column - total) ++ rest
    → (0 < column - total) ⊎ ((total ≡ 0) × (colour ≡ White))
    → AreWrittenRuns b column (other colour) rest
runs_go_on b total column colour mid rest so_far right run fits =
    let n = column - total in
    record {
      runs = so_far.runs ++ n ∷ [];
      bits = so_far.bits ∙ ap (λ c. alternating_bits White so_far.runs ++ c)
          (run ∙ ap (λ c. run_bits c n ++ rest) so_far.colour_is)
          ∙ sym (append_assoc (alternating_bits White so_far.runs) (run_bits (colour_after_runs White so_far.runs) n)
          rest)
          ∙ ap (λ c. c ++ rest) (sym (alternating-push White so_far.runs n));
      sum_is = omega (arith, sum-push so_far.runs n, so_far.sum_is);
      colour_is = ap other so_far.colour_is ∙ sym (colour_after_runs-push White so_far.runs n);
      some = some_push so_far.runs n so_far.some (elim fits [
        | inl pels ↦ inl pels
        | inr none ↦ inr (first_alone so_far.runs (sym so_far.sum_is ∙ none.0) (sym so_far.colour_is ∙ none.1)
            so_far.some)
      ]);
    }

-- these are the longest runs of the row that is read
pub runs_end : OneDimensionalBitsAreRead → (width : ℕ) (b : List Bool) (total : ℕ) (colour : Colour)
    (row : List Colour)
    (rest : List Bool) → AreWrittenRuns b total colour rest → total ≡ width → 0 < width → width < 2 ^ 16
    → read_one_dimensional width b ≡ read row rest → b ≡ one_dimensional_bits row ++ rest
runs_end back width b total colour row rest written done some short is =
    let own = pels_of_runs White written.runs in
    let len : length own ≡ width = length-pels_of_runs White written.runs ∙ sym written.sum_is ∙ done in
    let longest : runs_of own ≡ written.runs =
    longest_are_back written.runs width some (record { whole = sym written.sum_is ∙ done; some = written.some }) in
    let bits : b ≡ one_dimensional_bits own ++ rest = written.bits
    ∙ ap (λ runs. alternating_bits White runs ++ rest) (sym longest) in
    let again : read_one_dimensional width b ≡ read own rest = ap (λ n. read_one_dimensional n b) (sym len)
    ∙ ap (read_one_dimensional (length own)) bits
    ∙ back own rest (record { some = omega (arith, len); short = omega (arith, len) }) in
    let same : own ≡ row = (one_answer again is).0 in
    bits ∙ ap (λ pels. one_dimensional_bits pels ++ rest) same
