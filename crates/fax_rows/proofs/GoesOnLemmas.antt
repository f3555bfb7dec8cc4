-- Steps after steps, and the bits that they leave.
use Rattle.std.proofs.lemmas.Grind.{common_steps}
use Rattle.std.proofs.Common.{◌≡◌, ℕ, ◌+◌, ◌-◌, List, [], ◌∷◌, ◌++◌, length, drop, Bool, refl, ap, sym, ◌∙◌}
use Rattle.std.proofs.Common.{append_assoc, arith}
use Rattle.std.specs.Prelude.{Option, Some, None}
use Rattle.fax_bits.specs.declared.codes.CodeEntry.{CodeEntry}
use Rattle.fax_bits.specs.declared.Colour.{Colour}
use Rattle.fax_bits.specs.declared.mode_codes.ModeCode.{ModeCode}
use Rattle.fax_bits.specs.declared.mode_codes.ModeCode.TheVariants.{Pass, Horizontal, Vertical, Extension}
use Rattle.fax_bits.specs.Codes.{Decodes, bits_of}
use Rattle.fax_bits.specs.views.Source.{Source}
use Rattle.fax_rows.specs.declared.two_dimensional.horizontal_runs.NeedsTable.{NeedsTable}
use Rattle.fax_rows.specs.declared.two_dimensional.horizontal_runs.NeedsTable.TheVariants.{Mode, Runs}
use Rattle.fax_rows.specs.Rows.{Position, beginning}
use Rattle.fax_rows.specs.code.CodingSteps.{IsStep, IsStepBy}
use Rattle.fax_rows.specs.code.Chosen.{AreCanonicalSteps, ReachesBySteps, ReachesByCanonicalSteps}
use Rattle.fax_rows.specs.code.NeedsTable.{AreRunsNeeded, IsNeeded}
use Rattle.fax_rows.proofs.ChosenRowLemmas.{IsChosenSoFar, chosen_begins, chosen_goes_on as row_goes_on}
use Rattle.fax_rows.proofs.RunLemmas.{run_after}

pub no_step : (reference : List Colour) (at : Position) (b : List Bool) → ReachesBySteps reference at b at b
no_step reference at b = record { front = []; parts = refl; reads = refl }

pub no_chosen_step : (reference : List Colour) (at : Position) (b : List Bool)
    → ReachesByCanonicalSteps reference at b at b
no_chosen_step reference at b = record { positions = []; steps = (refl, refl) }

pub goes_further : {reference : List Colour} {first : Position} {b : List Bool} {old : Position} {mid : List Bool}
    {new : Position}
    {rest : List Bool} → ReachesBySteps reference first b old mid → ReachesBySteps reference old mid new rest
    → ReachesBySteps reference first b new rest
goes_further {rest = rest} some more = record {
  front = some.front ++ more.front;
  parts = some.parts ∙ ap (λ c. some.front ++ c) more.parts ∙ sym (append_assoc some.front more.front rest);
  reads = some.reads ∙ more.reads;
}

more_chosen : (reference : List Colour) (first : Position) (b : List Bool) (before : List Position) (old : Position)
    (mid : List Bool) (after : List Position) (new : Position) (rest : List Bool)
    → AreCanonicalSteps reference first b before old mid → AreCanonicalSteps reference old mid after new rest
    → AreCanonicalSteps reference first b (before ++ after) new rest
more_chosen reference first b [] old mid after new rest steps more = grind arith
more_chosen reference first b (next ∷ before) old mid after new rest steps more =
    (steps.0, steps.1, steps.2, more_chosen reference next steps.1 before old mid after new rest steps.3 more)

pub chosen_further : {reference : List Colour} {first : Position} {b : List Bool} {old : Position} {mid : List Bool}
    {new : Position}
    {rest : List Bool} → ReachesByCanonicalSteps reference first b old mid
    → ReachesByCanonicalSteps reference old mid new rest
    → ReachesByCanonicalSteps reference first b new rest
chosen_further some more = grind (arith, more_chosen)

chosen_on : (reference : List Colour) (b : List Bool) (old : Position) (mid : List Bool) (positions : List Position)
    (new : Position)
    (rest : List Bool) → IsChosenSoFar reference b old mid → AreCanonicalSteps reference old mid positions new rest
    → IsChosenSoFar reference b new rest
chosen_on reference b old mid [] new rest so_far more = grind arith
chosen_on reference b old mid (next ∷ positions) new rest so_far more =
    grind (
      arith,
      chosen_on reference b next more.1 positions new rest
          (row_goes_on reference b old mid next more.1 so_far more.2 more.0) more.3,
    )

-- steps that T.4 would have chosen, from the row's beginning
pub chosen_so_far : (reference : List Colour) (b : List Bool) (at : Position) (rest : List Bool)
    → ReachesByCanonicalSteps reference beginning b at rest → IsChosenSoFar reference b at rest
chosen_so_far reference b at rest steps =
    chosen_on reference b beginning b steps.positions at rest (chosen_begins reference b beginning refl) steps.steps

-- the bits end with those that are left
abbrev pub Leaves : List Bool → List Bool → Type 0
Leaves b rest = (front : List Bool) × (b ≡ front ++ rest)

pub leaves_more : {b mid rest : List Bool} → Leaves b mid → Leaves mid rest → Leaves b rest
leaves_more {b} {mid} {rest} some more =
    (some.0 ++ more.0, some.1 ∙ ap (λ c. some.0 ++ c) more.1 ∙ sym (append_assoc some.0 more.0 rest))

code_leaves : {M : Type 0} {table : List (CodeEntry M)} {b : List Bool} {m : M} {rest : List Bool}
    → Decodes table b m rest → Leaves b rest
code_leaves taken = (bits_of taken.entry, taken.spelled)

pub step_leaves : (reference : List Colour) (old : Position) (b : List Bool) (new : Position) (rest : List Bool)
    → IsStep reference old b new rest → Leaves b rest
step_leaves reference old b new rest step = leaves_more (code_leaves step.taken) (by step.mode step.step)
  where
    by : (m : ModeCode) → IsStepBy m reference old step.after new rest → Leaves step.after rest
    by Pass is = ([], is.1)
    by (Vertical d) is = ([], is.1)
    by Horizontal is = leaves_more (run_after is.first_run) (run_after is.second_run)
    by Extension is = absurd is

pub goes_on_leaves : {reference : List Colour} {old : Position} {b : List Bool} {new : Position} {rest : List Bool}
    → ReachesBySteps reference old b new rest → Leaves b rest
goes_on_leaves goes = (goes.front, goes.parts)

pub needed_leaves : (colour : Colour) (b : List Bool) (needed : NeedsTable) (rest : List Bool)
    → IsNeeded colour b needed rest
    → Leaves b rest
needed_leaves colour b Mode rest is = ([], is)
needed_leaves colour b (Runs first) rest is = leaves_more (code_leaves is.1) (runs is.0 first is.2)
  where
    runs : (middle : List Bool) (first : Option ℕ) → AreRunsNeeded colour middle first rest → Leaves middle rest
    runs middle None is = ([], is)
    runs middle (Some n) is = run_after is.0

-- the bits from a place on, before which so many stand
pub rest_there : (source : Source) (column : ℕ) (front rest : List Bool) → source.remaining ≡ front ++ rest
    → column ≡ source.place + length front → drop (column - source.place) source.remaining ≡ rest
rest_there source column front rest parts is = grind (arith, common_steps)
