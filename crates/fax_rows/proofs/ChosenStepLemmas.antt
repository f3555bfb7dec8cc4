-- Steps over places of change that T.4 would have chosen.
use Rattle.std.proofs.lemmas.Grind.{common_steps}
use Rattle.std.proofs.Common.{◌≡◌, ℕ, ◌<◌, ◌≤◌, List, length, take, Bool, ℤ, pos, ◌≤ℤ◌, subst, arith}
use Rattle.std.specs.Prelude.{None, Result, IfOk}
use Rattle.std.proofs.lemmas.Int.{ints}
use Rattle.fax_bits.specs.declared.Colour.TheVariants.{White}
use Rattle.fax_bits.specs.declared.mode_codes.ModeCode.TheVariants.{Pass, Horizontal, Vertical}
use Rattle.fax_bits.specs.Codes.{Decodes}
use Rattle.fax_bits.specs.Tables.{modes}
use Rattle.fax_rows.specs.declared.two_dimensional.steps.CodingState.{CodingState}
use Rattle.fax_rows.specs.declared.change_list.ChangingElements.{ChangingElements}
use Rattle.fax_rows.specs.Rows.{Position, first_pel, coloured_up_to}
use Rattle.fax_rows.specs.code.CodingSteps.{IsVerticalStep}
use Rattle.fax_rows.specs.code.Seen.{b2_from}
use Rattle.fax_rows.specs.code.Chosen.{IsCanonicalStep, IsCanonicalPair}
use Rattle.fax_rows.specs.code.ChangingElements.{element_pels}
use Rattle.fax_rows.specs.code.CodingState.{coding_position, IsCodingStateInRow}
use Rattle.fax_rows.specs.code.CodingPosition.{position_pel}
use Rattle.fax_rows.specs.code.ChangeLists.{pels_of_changes}
use Rattle.fax_rows.proofs.ChosenLemmas.{vertical_is, pass_is, horizontal_is}
use Rattle.fax_rows.proofs.PlacedB1Lemmas.{length-element_pels, b1_is, b2_is, b2_ahead}
use Rattle.fax_rows.proofs.PlacedRowLemmas.{toggled-first}
use Rattle.fax_rows.proofs.PlacedStepLemmas.{b2_order}
use Rattle.fax_rows.proofs.TakenModeLemmas.{mode_taken}
use Rattle.fax_rows.proofs.TurnLemmas.{length-pels_of_changes}

-- what holds of a value that is there, by what else holds of it
pub map_ok : {A E : Type 0} {P Q : A → Type 0} (found : Result A E) → IfOk found P → ((x : A) → P x → Q x)
    → IfOk found Q
map_ok found p f = grind arith

module _ {reference : ChangingElements} {changes : List ℕ} {at : CodingState} (here : IsCodingStateInRow reference
    changes at) where
  -- a0's colour just before the first pel
  start : at.position.a0 ≡ None → White ≡ at.position.colour
  start is = grind (arith, toggled-first)

  read : length (take (position_pel at.position) (pels_of_changes reference.width (take at.end changes)))
      ≡ position_pel at.position
  read = grind (arith, common_steps, length-pels_of_changes)

  inside : position_pel at.position < length (element_pels reference)
  inside = omega (arith, here.unfinished, length-element_pels reference)

  pub vertical_chosen : {b : List Bool} {d : ℤ} {new : Position} {rest : List Bool} → Decodes modes b (Vertical d) rest
      → IsVerticalStep (element_pels reference) (coding_position reference.width changes at) d new
      → first_pel new ≤ b2_from (element_pels reference) (coding_position reference.width changes at)
      → IsCanonicalStep (element_pels reference) (coding_position reference.width changes at) b new rest
  vertical_chosen {b = b} {d = d} {new = new} {rest = rest} takes step remaining row len goes =
      let mode = mode_taken takes in
      vertical_is (element_pels reference) row len (coding_position reference.width changes at) start read inside d b
      new
      rest step mode.bits
      mode.near remaining goes

  -- where the distance is said in two ways
  pub vertical_chosen_as : {b : List Bool} {d read : ℤ} {new : Position} {rest : List Bool}
      → Decodes modes b (Vertical d) rest
      → IsVerticalStep (element_pels reference) (coding_position reference.width changes at) read new
      → first_pel new ≤ b2_from (element_pels reference) (coding_position reference.width changes at) → read ≡ d
      → IsCanonicalStep (element_pels reference) (coding_position reference.width changes at) b new rest
  vertical_chosen_as {new = new} takes step remaining same =
      vertical_chosen takes
      (subst (λ e. IsVerticalStep (element_pels reference) (coding_position reference.width changes at) e new) same
      step)
      remaining

  -- a1 that is not right of b1 is not right of b2
  pub left_of_b2 : (d : ℤ) (new : Position) → IsVerticalStep (element_pels reference)
      (coding_position reference.width changes at) d new
      → d ≤ℤ pos 0 → first_pel new ≤ b2_from (element_pels reference) (coding_position reference.width changes at)
  left_of_b2 d new step remaining =
      let b1 = here.so_far.b1 here.unfinished in
      let first = b1_is reference b1 in
      let second = b2_is reference b1 in
      let order = b2_ahead reference at.b1 b1.some b1.within in
      rw step.new_is (omega (arith, ints, step.a1_is, remaining))

  pub under_chosen : {b : List Bool} {new : Position} {rest : List Bool} → Decodes modes b (Vertical (pos 0)) rest
      → IsVerticalStep (element_pels reference) (coding_position reference.width changes at) (pos 0) new
      → IsCanonicalStep (element_pels reference) (coding_position reference.width changes at) b new rest
  under_chosen {new = new} takes step = vertical_chosen takes step (left_of_b2 (pos 0) new step (omega (arith, ints)))

  pub pass_chosen : {b : List Bool} {new : Position} {rest : List Bool} → Decodes modes b Pass rest
      → new ≡ coloured_up_to (coding_position reference.width changes at) (b2_from (element_pels reference)
      (coding_position reference.width changes at))
      → first_pel new < length (element_pels reference)
      → IsCanonicalStep (element_pels reference) (coding_position reference.width changes at) b new rest
  pass_chosen {b = b} {new = new} {rest = rest} takes new_is ends row len goes =
      let b1 = here.so_far.b1 here.unfinished in
      let second = b2_is reference b1 in
      pass_is (element_pels reference) row len (coding_position reference.width changes at) start read inside b new rest
      new_is
      ((mode_taken takes).bits)
      (let order = b2_order here in omega arith) ends goes

  pub pair_chosen : {b middle : List Bool} {new : Position} {rest : List Bool} → Decodes modes b Horizontal middle
      → IsCanonicalPair (element_pels reference) (coding_position reference.width changes at) middle new rest
      → IsCanonicalStep (element_pels reference) (coding_position reference.width changes at) b new rest
  pair_chosen {b = b} {middle = middle} takes pair row len goes =
      horizontal_is (element_pels reference) row len (coding_position reference.width changes at) start read inside pair
      ((mode_taken takes).bits) goes
