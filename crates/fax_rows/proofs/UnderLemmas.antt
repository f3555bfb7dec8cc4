-- Steps with a1 under b1, one after another, over places of change that are copied.
use Rattle.std.proofs.lemmas.Grind.{common_steps}
use Rattle.std.proofs.Common.{◌≡◌, ℕ, zero, suc, ◌+◌, ◌-◌, ◌<◌, ◌≤◌, List, [], ◌∷◌, ◌++◌, length, take, get_or}
use Rattle.std.proofs.Common.{replicate, Bool, ℤ}
use Rattle.std.proofs.Common.{pos, refl, ap, sym, ◌∙◌, subst, arith, true, rules}
use Prim.{search}
use Rattle.std.specs.Prelude.{Some}
use Rattle.std.proofs.lemmas.Int.{ints}
use Rattle.std.proofs.lemmas.List.{get_or-take}
use Rattle.fax_bits.specs.declared.Colour.{Colour}
use Rattle.fax_bits.specs.declared.Colour.TheVariants.{Black}
use Rattle.fax_bits.specs.declared.mode_codes.ModeCode.TheVariants.{Vertical}
use Rattle.fax_bits.specs.Codes.{Decodes, DecodesAll}
use Rattle.fax_bits.specs.Bits.{code_bits}
use Rattle.fax_bits.specs.Tables.{modes}
use Rattle.fax_bits.specs.Written.{mode_bits}
use Rattle.fax_bits.specs.laws.Codes.{ModeBitsAreRead}
use Rattle.fax_rows.specs.declared.two_dimensional.steps.CodingState.{CodingState}
use Rattle.fax_rows.specs.declared.change_list.ChangingElements.{ChangingElements}
use Rattle.fax_rows.specs.Rows.{other, Position}
use Rattle.fax_rows.specs.code.CodingSteps.{IsStep, IsVerticalStep}
use Rattle.fax_rows.specs.code.Chosen.{IsCanonicalStep, ReachesBySteps, ReachesByCanonicalSteps}
use Rattle.fax_rows.specs.code.ChangingElements.{element_pels}
use Rattle.fax_rows.specs.code.CodingState.{coding_position, IsCodingState, IsCodingStateInRow, AreStepsRead}
use Rattle.fax_rows.specs.code.CodingPosition.{position_of}
use Rattle.fax_rows.proofs.GoesOnLemmas.{no_step, no_chosen_step, goes_further, step_leaves}
use Rattle.fax_rows.proofs.StepReadLemmas.{a_step}
use Rattle.fax_rows.specs.code.ChangeLists.{alternate, pels_of_changes, IsAscending, IsToggledFrom, TogglesAt}
use Rattle.fax_rows.proofs.ChosenStepLemmas.{under_chosen}
use Rattle.fax_rows.proofs.PlacedB1Lemmas.{length-element_pels, b1_next}
use Rattle.fax_rows.proofs.PlacedStepLemmas.{vertical_placed, turned_so_far, under_right, under_ahead, under_within}
use Rattle.fax_rows.proofs.PlacedStepLemmas.{from_start}
use Rattle.fax_rows.proofs.StepLemmas.{unfinished_below}
use Rattle.fax_rows.proofs.TurnLemmas.{alternate-suc, toggled-push_left, toggled-push_right}

-- one step from where the row is read to
pub step_goes_on : {reference : ChangingElements} {changes : List ℕ} {at : CodingState}
    → IsCodingStateInRow reference changes at
    → (b : List Bool) (new : Position) (rest : List Bool)
    → IsStep (element_pels reference) (coding_position reference.width changes at) b new rest
    → ReachesBySteps (element_pels reference) (coding_position reference.width changes at) b new rest
step_goes_on {reference} {changes} {at} here b new rest step =
    let front = step_leaves (element_pels reference) (coding_position reference.width changes at) b new rest step in
    record {
      front = front.0;
      parts = front.1;
      reads = a_step (element_pels reference) (coding_position reference.width changes at) b new rest
          (unfinished_below (element_pels reference) at.position.a0
          (omega (arith, here.unfinished, length-element_pels reference))) step;
    }

-- in vertical mode, where the distance is said in two ways
pub vertical_goes_on : {reference : ChangingElements} {changes : List ℕ} {at : CodingState}
    → IsCodingStateInRow reference changes at
    → (b : List Bool) (new : Position) (rest : List Bool) (d read : ℤ) → Decodes modes b (Vertical d) rest
    → IsVerticalStep (element_pels reference) (coding_position reference.width changes at) read new → read ≡ d
    → ReachesBySteps (element_pels reference) (coding_position reference.width changes at) b new rest
vertical_goes_on here b new rest d distance taken step same = grind (arith, common_steps, step_goes_on)

pub chosen_goes_on : {reference : ChangingElements} {changes : List ℕ} {at : CodingState}
    → IsCodingStateInRow reference changes at
    → (b : List Bool) (new : Position) (rest : List Bool)
    → IsCanonicalStep (element_pels reference) (coding_position reference.width changes at) b new rest
    → ReachesByCanonicalSteps (element_pels reference) (coding_position reference.width changes at) b new rest
chosen_goes_on {reference} {changes} {at} here b new rest step = record {
  positions = new ∷ [];
  steps = (omega (arith, here.unfinished, length-element_pels reference), rest, step, (refl, refl));
}

-- a place that stands where the next one is to be put
pub turned_more : (changes : List ℕ) (end column : ℕ) → end < length changes → get_or changes end 0 ≡ column
    → IsToggledFrom (take end changes) (take (end + 1) changes) column
turned_more changes end column room is = grind (arith, common_steps, toggled-push_left, toggled-push_right)

-- how far the row is read after the step to b1, and after so many of them
abbrev pub under : ChangingElements → CodingState → CodingState
under reference at = record {
  position = record { a0 = Some (get_or reference.changes.now at.b1 0); colour = other at.position.colour };
  end = at.end + 1;
  b1 = at.b1 + 1;
}

abbrev pub under_all : ℕ → ChangingElements → CodingState → CodingState
under_all zero reference at = at
under_all (suc k) reference at = under_all k reference (under reference at)

module _ (reference : ChangingElements) (changes : List ℕ) where
  -- the places ascend with the next one too
  ascending_more : (at : CodingState) → IsCodingStateInRow reference changes at → at.b1 < reference.end
      → get_or changes at.end 0 ≡ get_or reference.changes.now at.b1 0 → IsAscending changes (at.end + 1)
  ascending_more at here inside is = grind (arith, common_steps)

  -- the step to b1, whose place stands there already
  module _ (at : CodingState) (here : IsCodingStateInRow reference changes at)
      (inside : at.b1 < reference.end) (is : get_or changes at.end 0 ≡ get_or reference.changes.now at.b1 0) where
    turns : TogglesAt changes changes at.end (at.end + 1) (get_or reference.changes.now at.b1 0)
    turns = grind (arith, ascending_more, turned_more)

    step : IsVerticalStep (element_pels reference) (coding_position reference.width changes at) (pos 0)
        (coding_position reference.width changes (under reference at))
    step =
        let within = under_within here in
        vertical_placed here (pos 0) (pos (get_or reference.changes.now at.b1 0)) (omega (arith, ints))
        (from_start at.position) (under_right here) (omega (arith, ints, within))
        changes (at.end + 1) (at.b1 + 1) (other at.position.colour) turns refl

    read : IsCodingState reference changes (under reference at)
    read =
        turned_so_far here (under_ahead here) (under_within here) turns
        (λ h. b1_next reference (here.so_far.b1 here.unfinished) h) refl

  -- so many steps with a1 under b1
  pub record AreUnder (at : CodingState) (k : ℕ) (b rest : List Bool) : Type 0 where
    pub goes_on : ReachesBySteps (element_pels reference) (coding_position reference.width changes at) b
        (coding_position reference.width changes (under_all k reference at)) rest
    pub chosen : ReachesByCanonicalSteps (element_pels reference) (coding_position reference.width changes at) b
        (coding_position reference.width changes (under_all k reference at)) rest
    pub so_far : IsCodingState reference changes (under_all k reference at)

  pub all_under : (k : ℕ) (at : CodingState) (b rest : List Bool)
      → DecodesAll modes b (replicate k (Vertical (pos 0))) rest
      → IsCodingStateInRow reference changes at → at.b1 + k ≤ reference.end
      → ((i : ℕ) → i < k → get_or changes (at.end + i) 0 ≡ get_or reference.changes.now (at.b1 + i) 0)
      → AreUnder at k b rest
  all_under zero at b rest spells here inside copied = subst (λ c. AreUnder at zero b c) spells (record {
    goes_on = no_step (element_pels reference) (coding_position reference.width changes at) b;
    chosen = no_chosen_step (element_pels reference) (coding_position reference.width changes at) b;
    so_far = here.so_far;
  })
  all_under (suc k) at b rest spells here inside copied =
      let same : at.end + 0 ≡ at.end = omega arith in
      let again : at.b1 + 0 ≡ at.b1 = omega arith in
      let is : get_or changes at.end 0 ≡ get_or reference.changes.now at.b1 0 =
      ap (λ n. get_or changes n 0) (sym same) ∙ copied 0 (omega arith)
      ∙ ap (λ n. get_or reference.changes.now n 0) again in
      let less : at.b1 < reference.end = omega arith in
      let some = (here.so_far.b1 here.unfinished).some in
      let below : get_or reference.changes.now at.b1 0 < reference.width = reference.elements.below at.b1 some less in
      let vertical = step at here less is in
      let len = length-element_pels reference in
      let more = all_under k (under reference at) spells.0 rest spells.2
      (record { so_far = read at here less is; unfinished = below })
      (omega arith)
      (λ i h. let one : at.end + 1 + i ≡ at.end + suc i = omega arith in
      let other_one : at.b1 + 1 + i ≡ at.b1 + suc i = omega arith in
      ap (λ n. get_or changes n 0) one ∙ copied (suc i) (omega arith)
      ∙ ap (λ n. get_or reference.changes.now n 0) (sym other_one)) in
      record {
        goes_on = goes_further (step_goes_on here b _ spells.0
            (record { mode = Vertical (pos 0); after = spells.0; taken = spells.1; step = (vertical, refl) }))
            more.goes_on;
        chosen = record {
          positions = coding_position reference.width changes (under reference at) ∷ more.chosen.positions;
          steps = (
            omega (arith, here.unfinished, len),
            spells.0,
            under_chosen here spells.1 vertical,
            more.chosen.steps,
          );
        };
        so_far = more.so_far;
      }

-- how far the row is read to a place
abbrev pub elements : ℕ → Colour → ℕ → ℕ → CodingState
elements column colour end b1 = record { position = record { a0 = Some column; colour = colour }; end = end; b1 = b1 }

same_placed : {p q : ℕ} {c d : Colour} {m n i j : ℕ} → p ≡ q → c ≡ d → m ≡ n → i ≡ j → elements p c m i
    ≡ elements q d n j
same_placed column colour end b1 = grind (arith, common_steps)

-- how far it is read after so many steps, one at least
pub under_all_is : (k : ℕ) (reference : ChangingElements) (at : CodingState)
    → elements (get_or reference.changes.now (at.b1 + k) 0) (alternate at.position.colour (suc k)) (at.end + suc k)
    (at.b1 + suc k)
    ≡ under_all (suc k) reference at
under_all_is zero reference at = grind (arith, common_steps)
under_all_is (suc k) reference at =
    let next = under reference at in
    same_placed
    (let e : at.b1 + suc k ≡ at.b1 + 1 + k = omega arith in ap (λ n. get_or reference.changes.now n 0) e)
    refl (omega arith) (omega arith) ∙ under_all_is k reference next

pub alternate-add : (c : Colour) (b k : ℕ) → alternate (alternate c b) k ≡ alternate c (b + k)
alternate-add c b zero = let e : b ≡ b + 0 = omega arith in ap (alternate c) e
alternate-add c b (suc k) =
    let e : suc (b + k) ≡ b + suc k = omega arith in
    alternate-suc (alternate c b) k ∙ ap other (alternate-add c b k) ∙ sym (alternate-suc c (b + k))
    ∙ ap (alternate c) e

-- the same, by the index of b1 after them
pub under_all_as : (count : ℕ) (reference : ChangingElements) (at : CodingState) → 0 < count
    → alternate Black at.b1 ≡ at.position.colour
    → elements (get_or reference.changes.now (at.b1 + count - 1) 0) (alternate Black (at.b1 + count)) (at.end + count)
    (at.b1 + count)
    ≡ under_all count reference at
under_all_as zero reference at some is = absurd (omega arith)
under_all_as (suc k) reference at some is =
    let e : at.b1 + suc k - 1 ≡ at.b1 + k = omega arith in
    same_placed (ap (λ n. get_or reference.changes.now n 0) e) (sym (alternate-add Black at.b1 (suc k))
    ∙ ap (λ c. alternate c (suc k)) is)
    refl refl
    ∙ under_all_is k reference at

-- what is read stays so where places are put after it
pub so_far_kept : (reference : ChangingElements) (changes new : List ℕ) (at : CodingState)
    → IsCodingState reference changes at
    → length new ≡ length changes → take at.end new ≡ take at.end changes → IsCodingState reference new at
so_far_kept reference changes new at so_far len kept = grind (arith, get_or-take)

-- a 1 is the code of a1 under b1
pub one_is_taken : ModeBitsAreRead → (rest : List Bool) → Decodes modes (true ∷ rest) (Vertical (pos 0)) rest
unfolding modes mode_bits code_bits
one_is_taken law rest = law (Vertical (pos 0)) rest (search rules)

ones_are_spelled : ModeBitsAreRead → (k : ℕ) (rest : List Bool)
    → DecodesAll modes (replicate k true ++ rest) (replicate k (Vertical (pos 0))) rest
ones_are_spelled law zero rest = refl
ones_are_spelled law (suc k) rest = (
  replicate k true ++ rest,
  one_is_taken law (replicate k true ++ rest),
  ones_are_spelled law k rest,
)

-- the row is read on by a step whose code is taken, and by so many ones after it, where the places
-- that are put are those of the reference row
pub several_read : (reference : ChangingElements) (changes new : List ℕ) (at : CodingState) (more : ℕ) (colour : Colour)
    (b first rest : List Bool) → ModeBitsAreRead → Decodes modes b (Vertical (pos 0)) first
    → first ≡ replicate more true ++ rest
    → IsCodingStateInRow reference changes at → at.b1 + (more + 1) ≤ reference.end → length new ≡ length changes
    → take at.end new ≡ take at.end changes
    → ((i : ℕ) → i < (more + 1) → get_or new (at.end + i) 0 ≡ get_or reference.changes.now (at.b1 + i) 0)
    → colour ≡ alternate Black (at.b1 + (more + 1))
    → AreStepsRead true reference changes new at
    (elements (get_or reference.changes.now (at.b1 + (more + 1) - 1) 0) colour (at.end + (more + 1)) (at.b1 + (more +
    1)))
    b rest
several_read reference changes new at more colour b first rest law taken ones here inside len kept copied is =
    let spells = subst (λ c. DecodesAll modes c (replicate more (Vertical (pos 0))) rest) (sym ones)
    (ones_are_spelled law more rest) in
    let one : suc more ≡ more + 1 = omega arith in
    let again = subst (λ n. DecodesAll modes b (replicate n (Vertical (pos 0))) rest) one (first, taken, spells) in
    let all = all_under reference new ((more + 1)) at b rest again
    (record { so_far = so_far_kept reference changes new at here.so_far len kept; unfinished = here.unfinished }) inside
    copied in
    let next_is = ap (λ c. elements (get_or reference.changes.now (at.b1 + (more + 1) - 1) 0) c (at.end + (more + 1))
    (at.b1 + (more + 1))) is
    ∙ under_all_as ((more + 1)) reference at (omega arith) (here.so_far.b1 here.unfinished).colour_is in
    let from = ap (λ ps. position_of at.position (pels_of_changes reference.width ps)) kept in
    subst (λ next. AreStepsRead true reference changes new at next b rest) (sym next_is) (record {
      steps = subst (λ old. ReachesBySteps (element_pels reference) old b
          (coding_position reference.width new (under_all (more + 1) reference at)) rest) from all.goes_on;
      chosen = λ asked. subst (λ old. ReachesByCanonicalSteps (element_pels reference) old b
          (coding_position reference.width new (under_all (more + 1) reference at)) rest) from all.chosen;
      so_far = all.so_far;
    })

-- or by that step alone
pub one_read : (reference : ChangingElements) (changes new : List ℕ) (at next : CodingState) (b rest : List Bool)
    → Decodes modes b (Vertical (pos 0)) rest → IsCodingStateInRow reference changes at
    → IsVerticalStep (element_pels reference) (coding_position reference.width changes at) (pos 0)
    (coding_position reference.width new next)
    → IsCodingState reference new next → AreStepsRead true reference changes new at next b rest
one_read reference changes new at next b rest taken here vertical read =
    search (rules, step_goes_on, chosen_goes_on, under_chosen)
