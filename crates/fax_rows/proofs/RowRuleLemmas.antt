-- What holds of each run and of each step that is read holds of the row.
use Rattle.std.proofs.Common.{arith, ◌≡◌, ◌≢◌, ℕ, ◌-◌, ◌<◌, ◌≤◌, List, ◌++◌, length, length-append, Bool, true}
use Rattle.std.proofs.Common.{false}
use Rattle.std.proofs.Common.{cond, refl, sym, subst, Some, None, replicate}
use Rattle.std.specs.Prelude.{nat_eq}
use Rattle.std.proofs.lemmas.Bool.Decides.{nat_tests}
use Rattle.std.proofs.lemmas.List.{length-replicate}
use Rattle.fax_bits.specs.declared.Colour.{Colour}
use Rattle.fax_bits.specs.Reading.{Read, read, failed, Step, onward, done, stopped, step_by}
use Rattle.fax_bits.proofs.StepsLemmas.{by_step, holds, step_on, step_fails, step_onward}
use Rattle.fax_rows.specs.declared.RowFault.{RowFault}
use Rattle.fax_rows.specs.declared.RowFault.TheVariants.{DataEnds}
use Rattle.fax_rows.specs.Rows.{other, beginning, Position}
use Rattle.fax_rows.specs.code.CodingSteps.{IsStep}
use Rattle.fax_rows.specs.ReadRows.{read_run, Runs, after_run, row_step, read_runs, coding_step, read_steps}
use Rattle.fax_rows.specs.ReadRows.{read_two_dimensional}
use Rattle.fax_rows.proofs.RunReadLemmas.{is_run_to, run_shorter, IsRunTo, same_place, other_place}
use Rattle.fax_rows.proofs.StepReadLemmas.{onward_is, done_is, shortens}

-- how far a row is read after a run to this place
abbrev pub runs_to : Runs → ℕ → Runs
runs_to at to =
    record { pels = at.pels ++ replicate (to - length at.pels) at.colour; colour = other at.colour }

pub length-runs_to : (at : Runs) (to : ℕ) → length at.pels ≤ to → length (at.pels
    ++ replicate (to - length at.pels) at.colour) ≡ to
length-runs_to at to right =
    omega (
      arith,
      right,
      length-append at.pels (replicate (to - length at.pels) at.colour),
      length-replicate (to - length at.pels) at.colour,
    )

abbrev GoesOnTo : Step Runs (List Colour) RowFault → Runs → List Bool → Type 0
GoesOnTo step next rest = step ≡ onward next rest

abbrev EndsAs : Step Runs (List Colour) RowFault → List Colour → List Bool → Type 0
EndsAs step pels rest = step ≡ done pels rest

module _ (width : ℕ) where
  -- what continues is a run before the row's end
  run_is : (at next : Runs) (b rest : List Bool) → row_step width at b ≡ onward next rest
      → (to : ℕ) × (length at.pels ≢ width) × IsRunTo at.colour width (length at.pels) b to rest × (next
      ≡ runs_to at to)
  run_is at next b rest is = by (nat_eq (length at.pels) width) refl is
    where
      by : (test : Bool) → nat_eq (length at.pels) width ≡ test
          → GoesOnTo (cond test (done at.pels b) (step_by (after_run at) (read_run at.colour width (length at.pels) b)))
          next rest
          → (to : ℕ) × (length at.pels ≢ width) × IsRunTo at.colour width (length at.pels) b to rest
          × (next ≡ runs_to at to)
      by true there same = absurd (cc (same))
      by false there same =
          let run = step_onward (read_run at.colour width (length at.pels) b) (after_run at) next rest same in
          let remaining : run.1 ≡ rest = cc (run.3) in (
            run.0,
            λ end. absurd (cc (there, same_place (length at.pels) width end)),
            subst (λ c. IsRunTo at.colour width (length at.pels) b run.0 c) remaining
                (is_run_to at.colour width (length at.pels) b run.0 run.1 run.2),
            cc (run.3),
          )

  -- and what is done is at its end
  end_is : (at : Runs) (b : List Bool) (pels : List Colour) (rest : List Bool) → row_step width at b ≡ done pels rest
      → (length at.pels ≡ width) × (pels ≡ at.pels) × (b ≡ rest)
  end_is at b pels rest is = by (nat_eq (length at.pels) width) refl is
    where
      no_end : (r : Read ℕ RowFault) → EndsAs (step_by (after_run at) r) pels rest → ⊥
      no_end (read to remaining) same = cc (same)
      no_end (failed fault) same = cc (same)

      by : (test : Bool) → nat_eq (length at.pels) width ≡ test
          → EndsAs (cond test (done at.pels b) (step_by (after_run at) (read_run at.colour width (length at.pels) b)))
          pels rest
          → (length at.pels ≡ width) × (pels ≡ at.pels) × (b ≡ rest)
      by true there same =
          let end : length at.pels ≡ width = grind (arith, nat_tests) in (end, cc (same), cc (same))
      by false there same = absurd (no_end (read_run at.colour width (length at.pels) b) same)

  runs_shorten : (at next : Runs) (b rest : List Bool) → row_step width at b ≡ onward next rest → length rest < length b
  runs_shorten at next b rest is = run_shorter (run_is at next b rest is).2.run

  -- a run is read, and then what follows it
  pub a_run : (at : Runs) (to : ℕ) (b rest : List Bool) → length at.pels < width
      → read_run at.colour width (length at.pels) b ≡ read to rest
      → read_runs width at b ≡ read_runs width (runs_to at to) rest
  a_run at to b rest unfinished is =
      by_step DataEnds (row_step width) runs_shorten at b (onward (runs_to at to) rest)
      (rw (other_place (length at.pels) width unfinished) (step_on (after_run at) is refl))

  pub no_run : (at : Runs) (b : List Bool) (fault : RowFault) → length at.pels < width
      → read_run at.colour width (length at.pels) b ≡ failed fault → read_runs width at b ≡ failed fault
  no_run at b fault unfinished is =
      by_step DataEnds (row_step width) runs_shorten at b (stopped fault)
      (rw (other_place (length at.pels) width unfinished) (step_fails (after_run at) is))

  pub all_runs : (at : Runs) (b : List Bool) → length at.pels ≡ width → read_runs width at b ≡ read at.pels b
  all_runs at b end =
      by_step DataEnds (row_step width) runs_shorten at b (done at.pels b)
      (rw (same_place (length at.pels) width end) refl)

  -- of runs, from the last one on
  module _ (R : Runs → List Bool → List Colour → List Bool → Type 0)
      (none : (at : Runs) (b : List Bool) → length at.pels ≡ width → R at b at.pels b)
      (more : (at : Runs) (to : ℕ) (b remaining : List Bool) (pels : List Colour) (rest : List Bool)
      → length at.pels ≢ width
      → IsRunTo at.colour width (length at.pels) b to remaining → R (runs_to at to) remaining pels rest
      → R at b pels rest) where
    run_by_table : (at : Runs) (b : List Bool) (pels : List Colour) (rest : List Bool) → row_step width at b
        ≡ done pels rest
        → R at b pels rest
    run_by_table at b pels rest is =
        let end = end_is at b pels rest is in
        subst (λ p. R at b p rest) (sym end.1) (subst (λ c. R at b at.pels c) end.2 (none at b end.0))

    run_before : (at next : Runs) (b remaining : List Bool) (pels : List Colour) (rest : List Bool)
        → row_step width at b ≡ onward next remaining → R next remaining pels rest → R at b pels rest
    run_before at next b remaining pels rest is after =
        let run = run_is at next b remaining is in
        more at run.0 b remaining pels rest run.1 run.2 (subst (λ n. R n remaining pels rest) run.3 after)

    pub runs_rule : (at : Runs) (b : List Bool) (pels : List Colour) (rest : List Bool)
        → read_runs width at b ≡ read pels rest → R at b pels rest
    runs_rule = holds DataEnds (row_step width) runs_shorten R run_by_table run_before

-- of steps, from the first one on
module _ (reference : List Colour) (P : Position → List Bool → Type 0)
    (kept : (at : Position) (b : List Bool) (new : Position) (rest : List Bool) → IsStep reference at b new rest
    → P at b
    → P new rest) where
  abbrev IsReadFrom : Position → List Bool → List Colour → List Bool → Type 0
  IsReadFrom at b pels rest = P at b
      → (last : Position) × P last rest × (last.a0 ≡ Some (length reference)) × (pels ≡ last.pels)

  last_step : (at : Position) (b : List Bool) (pels : List Colour) (rest : List Bool)
      → coding_step reference at b ≡ done pels rest → IsReadFrom at b pels rest
  last_step at b pels rest is p =
      let end = done_is reference at b pels rest is in (at, subst (λ c. P at c) end.2 p, end.0, end.1)

  step_before : (at next : Position) (b remaining : List Bool) (pels : List Colour) (rest : List Bool)
      → coding_step reference at b ≡ onward next remaining → IsReadFrom next remaining pels rest
      → IsReadFrom at b pels rest
  step_before at next b remaining pels rest is after p = after (kept at b next remaining (onward_is reference at b next
      remaining is)
      p)

  pub steps_rule : (at : Position) (b : List Bool) (pels : List Colour) (rest : List Bool)
      → read_steps reference at b ≡ read pels rest → IsReadFrom at b pels rest
  steps_rule = holds DataEnds (coding_step reference) (shortens reference) IsReadFrom last_step step_before

-- what holds of bits that begin with a step holds of those of a row
pub first_step_rule : (reference : List Colour) (P : List Bool → Type 0)
    → ((at : Position) (b : List Bool) (new : Position) (rest : List Bool) → IsStep reference at b new rest → P b)
    → (b : List Bool) (pels : List Colour) (rest : List Bool) → read_two_dimensional reference b ≡ read pels rest → P b
first_step_rule reference P of_step b pels rest is =
    holds DataEnds (coding_step reference) (shortens reference) (λ at b pels rest. at.a0 ≡ None → P b)
    (λ at b pels rest end none. absurd (let at_end = (done_is reference at b pels rest end).0 in cc (at_end, none)))
    (λ at next b remaining pels rest step more none. of_step at b next remaining (onward_is reference at b next
    remaining step))
    beginning b pels rest is refl
