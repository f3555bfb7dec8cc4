-- Steps in vertical mode, one after another, each to a place that is right of the one before, and
-- between the changes before and after its b1.
use Rattle.std.proofs.lemmas.Grind.{common_steps}
use Rattle.std.proofs.Common.{◌≡◌, ℕ, zero, suc, ◌+◌, ◌-◌, ◌<◌, ◌≤◌, List, [], ◌∷◌, length, map, take, get_or, Bool}
use Rattle.std.proofs.Common.{pos, refl, ap}
use Rattle.std.proofs.Common.{sym, ◌∙◌, subst, arith, true}
use Rattle.std.specs.Prelude.{◌<ℤ◌, Option, Some}
use Rattle.std.proofs.lemmas.Bool.{lt-ltb}
use Rattle.std.proofs.lemmas.Int.{ints}
use Rattle.fax_bits.specs.declared.Colour.{Colour}
use Rattle.fax_bits.specs.declared.Colour.TheVariants.{Black}
use Rattle.fax_bits.specs.Codes.{DecodesAll}
use Rattle.fax_bits.specs.Tables.{modes}
use Rattle.fax_bits.specs.views.Verticals.{shift, vertical}
use Rattle.fax_rows.specs.declared.two_dimensional.steps.CodingState.{CodingState}
use Rattle.fax_rows.specs.declared.change_list.ChangingElements.{ChangingElements}
use Rattle.fax_rows.specs.Rows.{other, is_right_of, a0_number}
use Rattle.fax_rows.specs.code.CodingSteps.{IsVerticalStep}
use Rattle.fax_rows.specs.code.Chosen.{ReachesBySteps, ReachesByCanonicalSteps}
use Rattle.fax_rows.specs.code.ChangingElements.{element_pels, IsB1At}
use Rattle.fax_rows.specs.code.CodingState.{coding_position, IsCodingState, IsCodingStateInRow, AreStepsRead}
use Rattle.fax_rows.specs.code.CodingPosition.{position_of}
use Rattle.fax_rows.specs.code.Several.{AreVerticalTargets}
use Rattle.fax_rows.specs.code.ChangeLists.{alternate, pels_of_changes, IsAscending, TogglesAt}
use Rattle.fax_rows.proofs.ChosenStepLemmas.{vertical_chosen}
use Rattle.fax_rows.proofs.GoesOnLemmas.{no_step, no_chosen_step, goes_further}
use Rattle.fax_rows.proofs.UnderLemmas.{step_goes_on}
use Rattle.fax_rows.proofs.PlacedB1Lemmas.{length-element_pels, b2_is, b1_at_most}
use Rattle.fax_rows.proofs.PlacedStepLemmas.{vertical_placed, from_start}
use Rattle.fax_rows.proofs.TurnLemmas.{alternate-suc}
use Rattle.fax_rows.proofs.UnderLemmas.{turned_more, so_far_kept, alternate-add}

-- how far the row is read after the step to the next place, and after so many of them
abbrev pub next : List ℕ → CodingState → CodingState
next changes at = record {
  position = record { a0 = Some (get_or changes at.end 0); colour = other at.position.colour };
  end = at.end + 1;
  b1 = at.b1 + 1;
}

abbrev pub after : ℕ → List ℕ → CodingState → CodingState
after zero changes at = at
after (suc k) changes at = after k changes (next changes at)

right_number : (at0 : Option ℕ) (colour : Colour) (a1 : ℕ) → is_right_of at0 a1 ≡ true
    → a0_number (record { a0 = at0; colour = colour; pels = [] }) <ℤ pos a1
right_number at0 colour a1 h = grind arith

module _ (reference : ChangingElements) (changes : List ℕ) where
  -- a step to a place that stands there already
  module _ (at : CodingState) (here : IsCodingStateInRow reference changes at) (inside : at.b1 < reference.end) (raised
      : ℕ)
      (more : List ℕ)
      (fine : AreVerticalTargets reference.changes.now changes at.position.a0 at.end at.b1 (raised ∷ more)) where
    abbrev column : ℕ
    column = get_or changes at.end 0

    below : column < reference.width
    below = grind (arith, b1_at_most)

    ascending_more : IsAscending changes (at.end + 1)
    ascending_more = grind (arith, common_steps)

    turns : TogglesAt changes changes at.end (at.end + 1) column
    turns = grind (arith, ascending_more, turned_more)

    step : IsVerticalStep (element_pels reference) (coding_position reference.width changes at) (shift raised)
        (coding_position reference.width changes (next changes at))
    step =
        vertical_placed here (shift raised) (pos column) (omega (arith, ints, fine.1))
        (from_start at.position) (right_number at.position.a0 at.position.colour column fine.0) (omega (
          arith,
          ints,
          below,
        ))
        changes (at.end + 1) (at.b1 + 1) (other at.position.colour) turns refl

    b1 : IsB1At reference (Some column) (other at.position.colour) (at.b1 + 1)
    b1 = grind (arith, alternate-suc)

    read : IsCodingStateInRow reference changes (next changes at)
    read = grind (arith, turns, b1)

    left_hand : column ≤ get_or reference.changes.now (at.b1 + 1) 0
    left_hand = omega (arith, fine.3)

  -- so many steps
  pub record AreOn (at : CodingState) (k : ℕ) (b rest : List Bool) : Type 0 where
    pub goes_on : ReachesBySteps (element_pels reference) (coding_position reference.width changes at) b
        (coding_position reference.width changes (after k changes at)) rest
    pub chosen : ReachesByCanonicalSteps (element_pels reference) (coding_position reference.width changes at) b
        (coding_position reference.width changes (after k changes at)) rest
    pub so_far : IsCodingState reference changes (after k changes at)

  pub all_on : (biased_offsets : List ℕ) (at : CodingState) (b rest : List Bool)
      → DecodesAll modes b (map vertical biased_offsets) rest
      → IsCodingStateInRow reference changes at → at.b1 + length biased_offsets ≤ reference.end
      → AreVerticalTargets reference.changes.now changes at.position.a0 at.end at.b1 biased_offsets
      → AreOn at (length biased_offsets) b rest
  all_on [] at b rest spells here inside fine = subst (λ c. AreOn at zero b c) spells (record {
    goes_on = no_step (element_pels reference) (coding_position reference.width changes at) b;
    chosen = no_chosen_step (element_pels reference) (coding_position reference.width changes at) b;
    so_far = here.so_far;
  })
  all_on (raised ∷ biased_offsets) at b rest spells here inside fine =
      let less : at.b1 < reference.end = omega arith in
      let vertical_step = step at here less raised biased_offsets fine in
      let len = length-element_pels reference in
      let b2 = b2_is reference (here.so_far.b1 here.unfinished) in
      let more = all_on biased_offsets (next changes at) spells.0 rest spells.2 (read at here less raised biased_offsets
      fine)
      (omega arith) fine.4 in
      record {
        goes_on = goes_further (step_goes_on here b _ spells.0
            (record { mode = vertical raised; after = spells.0; taken = spells.1; step = (vertical_step, refl) }))
            more.goes_on;
        chosen = record {
          positions = coding_position reference.width changes (next changes at) ∷ more.chosen.positions;
          steps = (
            omega (arith, here.unfinished, len),
            spells.0,
            vertical_chosen here spells.1 vertical_step (omega (
              arith,
              b2,
              left_hand at here less raised biased_offsets
                  fine,
            )),
            more.chosen.steps,
          );
        };
        so_far = more.so_far;
      }

-- how far the row is read to a place
abbrev pub reached_at : ℕ → Colour → ℕ → ℕ → CodingState
reached_at column colour end b1 = record { position = record { a0 = Some column; colour = colour }; end = end; b1 = b1 }

same_reached : (p q : ℕ) (c d : Colour) (m n i j : ℕ) → p ≡ q → c ≡ d → m ≡ n → i ≡ j
    → reached_at p c m i ≡ reached_at q d n j
same_reached p q c d m n i j column colour end b1 = grind arith

after_is : (k : ℕ) (changes : List ℕ) (at : CodingState)
    → reached_at (get_or changes (at.end + k) 0) (alternate at.position.colour (suc k)) (at.end + suc k) (at.b1 + suc k)
    ≡ after (suc k) changes at
after_is zero changes at = grind arith
after_is (suc k) changes at = grind (arith, after_is k changes (next changes at))

after_as : (count : ℕ) (changes : List ℕ) (at : CodingState) → 0 < count → alternate Black at.b1 ≡ at.position.colour
    → reached_at (get_or changes (at.end + count - 1) 0) (alternate Black (at.b1 + count)) (at.end + count)
    (at.b1 + count)
    ≡ after count changes at
after_as zero changes at some is = absurd (omega arith)
after_as (suc k) changes at some is =
    let e : at.end + suc k - 1 ≡ at.end + k = omega arith in
    same_reached (get_or changes (at.end + suc k - 1) 0) (get_or changes (at.end + k) 0)
    (alternate Black (at.b1 + suc k)) (alternate at.position.colour (suc k)) (at.end + suc k) (at.end + suc k)
    (at.b1 + suc k)
    (at.b1 + suc k) (ap (λ n. get_or changes n 0) e)
    (sym (alternate-add Black at.b1 (suc k)) ∙ ap (λ c. alternate c (suc k)) is) refl refl
    ∙ after_is k changes at

at_zero : (xs : List ℕ) (n : ℕ) → get_or xs (n + 0) 0 ≡ get_or xs n 0
at_zero xs n = let e : n + 0 ≡ n = omega arith in ap (λ m. get_or xs m 0) e

at_suc : (xs : List ℕ) (n i : ℕ) → get_or xs (n + suc i) 0 ≡ get_or xs (n + 1 + i) 0
at_suc xs n i = let e : n + suc i ≡ n + 1 + i = omega arith in ap (λ m. get_or xs m 0) e

-- places that are fine, said by their index
pub fine_from : (others changes biased_offsets : List ℕ) (a0 : Option ℕ) (end b : ℕ) → 0 < b
    → ((i : ℕ) → i < length biased_offsets → get_or changes (end + i) 0 + 3
    ≡ get_or others (b + i) 0 + get_or biased_offsets i 0)
    → ((i : ℕ) → i < length biased_offsets → get_or others (b - 1 + i) 0 ≤ get_or changes (end + i) 0)
    → ((i : ℕ) → i < length biased_offsets → get_or changes (end + i) 0 < get_or others (b + 1 + i) 0)
    → (0 < length biased_offsets → is_right_of a0 (get_or changes end 0) ≡ true)
    → ((i : ℕ) → i + 1 < length biased_offsets → get_or changes (end + i) 0 < get_or changes (end + (i + 1)) 0)
    → AreVerticalTargets others changes a0 end b biased_offsets
fine_from others changes [] a0 end b some raised left_hand right first up = tt
fine_from others changes (raise ∷ biased_offsets) a0 end b some raised left_hand right first up = (
  first (omega arith),
  omega (arith, raised 0 (omega arith), at_zero changes end, at_zero others b),
  omega (arith, left_hand 0 (omega arith), at_zero changes end, at_zero others (b - 1)),
  omega (arith, right 0 (omega arith), at_zero changes end, at_zero others (b + 1)),
  fine_from others changes biased_offsets (Some (get_or changes end 0)) (end + 1) (b + 1) (omega arith)
      (λ i h. omega (arith, raised (suc i) (omega arith), at_suc changes end i, at_suc others b i))
      (λ i h. let e : b + 1 - 1 + i ≡ b - 1 + suc i = omega arith in
      omega (arith, left_hand (suc i) (omega arith), at_suc changes end i, ap (λ m. get_or others m 0) e))
      (λ i h. omega (arith, right (suc i) (omega arith), at_suc changes end i, at_suc others (b + 1) i))
      (λ h. let e : end + (0 + 1) ≡ end + 1 = omega arith in
      lt-ltb (get_or changes end 0) (get_or changes (end + 1) 0)
      (omega (arith, up 0 (omega arith), at_zero changes end, ap (λ m. get_or changes m 0) e)))
      (λ i h. let e : end + (suc i + 1) ≡ end + 1 + (i + 1) = omega arith in
      omega (arith, up (suc i) (omega arith), at_suc changes end i, ap (λ m. get_or changes m 0) e)),
)

-- the row is read on by these steps, over places that are put behind those that are read
pub several_on : (reference : ChangingElements) (changes new : List ℕ) (at : CodingState) (biased_offsets : List ℕ)
    (count : ℕ)
    (colour : Colour)
    (b rest : List Bool) → DecodesAll modes b (map vertical biased_offsets) rest → length biased_offsets ≡ count
    → 0 < count
    → IsCodingStateInRow reference changes at
    → at.b1 + count ≤ reference.end → length new ≡ length changes → take at.end new ≡ take at.end changes
    → AreVerticalTargets reference.changes.now new at.position.a0 at.end at.b1 biased_offsets → colour
    ≡ alternate Black (at.b1 + count)
    → AreStepsRead true reference changes new at
    (reached_at (get_or new (at.end + count - 1) 0) colour (at.end + count) (at.b1 + count)) b rest
several_on reference changes new at biased_offsets count colour b rest spells long some here inside len kept fine is =
    let all = all_on reference new biased_offsets at b rest spells
    (record { so_far = so_far_kept reference changes new at here.so_far len kept; unfinished = here.unfinished })
    (omega (arith, long)) fine in
    let next_is = ap (λ c. reached_at (get_or new (at.end + count - 1) 0) c (at.end + count) (at.b1 + count)) is
    ∙ after_as count new at some (here.so_far.b1 here.unfinished).colour_is ∙ ap (λ k. after k new at) (sym long) in
    let from = ap (λ ps. position_of at.position (pels_of_changes reference.width ps)) kept in
    subst (λ next. AreStepsRead true reference changes new at next b rest) (sym next_is) (record {
      steps = subst (λ old. ReachesBySteps (element_pels reference) old b
          (coding_position reference.width new (after (length biased_offsets) new at)) rest) from all.goes_on;
      chosen = λ asked. subst (λ old. ReachesByCanonicalSteps (element_pels reference) old b
          (coding_position reference.width new (after (length biased_offsets) new at)) rest) from all.chosen;
      so_far = all.so_far;
    })
