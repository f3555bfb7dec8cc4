-- A row that is read on by one mode.
use Rattle.std.proofs.Common.{rules, ◌≡◌, ℕ, ◌<◌, ◌≤◌, List, Bool, true, ℤ, refl, Result, Ok, Err}
use Rattle.std.specs.Prelude.{IsTrue, IfOk}
use Rattle.fax_bits.specs.declared.mode_codes.ModeCode.TheVariants.{Pass, Horizontal, Vertical}
use Rattle.fax_bits.specs.Codes.{Decodes}
use Rattle.fax_bits.specs.Tables.{modes}
use Rattle.fax_rows.specs.declared.change_list.ChangingElements.{ChangingElements}
use Rattle.fax_rows.specs.declared.two_dimensional.steps.CodingState.{CodingState}
use Rattle.fax_rows.specs.Rows.{coloured_up_to}
use Rattle.fax_rows.specs.code.CodingSteps.{IsVerticalStep}
use Rattle.fax_rows.specs.code.CodingState.{coding_position, IsCodingState, IsCodingStateInRow, AreStepsRead}
use Rattle.fax_rows.specs.code.CodingState.{IsPairReadOn}
use Rattle.fax_rows.specs.code.ChangingElements.{element_pels}
use Rattle.fax_rows.specs.code.CodingPosition.{position_pel}
use Rattle.fax_rows.specs.code.Seen.{b2_from}
use Rattle.fax_rows.proofs.ChosenStepLemmas.{vertical_chosen_as, pass_chosen, pair_chosen}
use Rattle.fax_rows.proofs.PlacedB1Lemmas.{length-element_pels}
use Rattle.fax_rows.proofs.UnderLemmas.{step_goes_on, vertical_goes_on, chosen_goes_on}

-- what T.4 chooses, whether that is asked for or not
pub asked_or_not : {choice : Bool} {reference : ChangingElements} {old new : List ℕ} {at next : CodingState}
    {b rest : List Bool}
    → AreStepsRead true reference old new at next b rest → AreStepsRead choice reference old new at next b rest
asked_or_not read = record { steps = read.steps; chosen = λ asked. read.chosen refl; so_far = read.so_far }

module _ {choice : Bool} {reference : ChangingElements} {changes new : List ℕ} {at next : CodingState}
    (here : IsCodingStateInRow reference changes at) where
  pub vertical_read : {b : List Bool} {d : ℤ} {rest : List Bool} → Decodes modes b (Vertical d) rest
      → IsVerticalStep (element_pels reference) (coding_position reference.width changes at) d
      (coding_position reference.width new next) → IsCodingState reference new next
      → (IsTrue choice → position_pel next.position ≤ b2_from (element_pels reference)
      (coding_position reference.width changes at))
      → AreStepsRead choice reference changes new at next b rest
  vertical_read taken step so_far remaining = search (rules, vertical_goes_on, chosen_goes_on, vertical_chosen_as)

  pub pass_read : {b rest : List Bool} → Decodes modes b Pass rest
      → coding_position reference.width new next ≡ coloured_up_to (coding_position reference.width changes at)
      (b2_from (element_pels reference) (coding_position reference.width changes at))
      → IsCodingState reference new next → (IsTrue choice → position_pel next.position < reference.width)
      → AreStepsRead choice reference changes new at next b rest
  pass_read taken step so_far inside = search (rules, step_goes_on, chosen_goes_on, pass_chosen, length-element_pels)

  pub pair_read : {b middle rest : List Bool} → Decodes modes b Horizontal middle
      → IsPairReadOn choice reference changes new at next middle rest
      → AreStepsRead choice reference changes new at next b rest
  pair_read {b} {middle} {rest} taken read = record {
    steps = step_goes_on here b _ rest (record { mode = Horizontal; after = middle; taken = taken; step = read.step });
    chosen = λ asked. chosen_goes_on here b _ rest (pair_chosen here taken (read.chosen asked));
    so_far = read.so_far;
  }

-- of a step that is found
pub vertical_found : {E : Type 0} (choice : Bool) {reference : ChangingElements} {changes : List ℕ} (new : List ℕ)
    {at : CodingState} {b : List Bool} {d : ℤ} {rest : List Bool} (found : Result CodingState E)
    → IsCodingStateInRow reference changes at → Decodes modes b (Vertical d) rest
    → IfOk found (λ next. IsVerticalStep (element_pels reference) (coding_position reference.width changes at) d
    (coding_position reference.width new next)) → IfOk found (IsCodingState reference new)
    → IfOk found (λ next. IsTrue choice → position_pel next.position ≤ b2_from (element_pels reference)
    (coding_position reference.width changes at))
    → IfOk found (λ next. AreStepsRead choice reference changes new at next b rest)
vertical_found choice new (Ok next) here taken step so_far remaining = vertical_read here taken step so_far remaining
vertical_found choice new (Err _) here taken step so_far remaining = search rules
