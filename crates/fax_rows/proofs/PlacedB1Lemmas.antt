-- b1 and b2 by an index into the reference row's places of change.
use Rattle.fax_rows.proofs.ColourLemmas.{other_than, same_as}
use Rattle.std.proofs.lemmas.Grind.{common_steps}
use Rattle.std.proofs.Common.{◌≡◌, ℕ, zero, suc, ◌+◌, ◌-◌, ◌<◌, ◌≤◌, List, length, take, get_or, true, false, not, refl}
use Rattle.std.proofs.Common.{ap, sym, ◌∙◌}
use Rattle.std.proofs.Common.{subst, arith, inl, inr}
use Rattle.std.specs.Prelude.{◌⊎◌, ◌&&◌, Option, Some, None, unwrap_or}
use Rattle.std.proofs.lemmas.Bool.{and_from, cases_lt, true≢false}
use Rattle.fax_bits.specs.declared.Colour.{Colour}
use Rattle.fax_bits.specs.declared.Colour.TheVariants.{Black}
use Rattle.fax_rows.specs.Rows.{other, same_colour, pel, is_changing, is_right_of, next_change, b1, b2}
use Rattle.fax_rows.specs.declared.change_list.ChangingElements.{ChangingElements}
use Rattle.fax_rows.specs.code.ChangingElements.{element_pels, IsBeforeB1, IsB1At}
use Rattle.fax_rows.specs.code.ChangeLists.{alternate, AreChangesUpTo, IsFrom}
use Rattle.fax_rows.proofs.ChangeLemmas.{still_left, next_change_is}
use Rattle.fax_rows.proofs.ChangePlaceLemmas.{next_of_at}
use Rattle.fax_rows.proofs.TurnLemmas.{length-pels_of_changes, alternate-suc, below_later, not_later, pel_after}
use Rattle.fax_rows.proofs.TurnLemmas.{changing_at}
use Rattle.fax_rows.proofs.TurnLemmas.{unchanging}
use Rattle.fax_rows.proofs.PlacedRowLemmas.{next_here, end_within}

-- a place further right is right of a place too
further_right : (from : Option ℕ) (i j : ℕ) → i ≤ j → is_right_of from i ≡ true → is_right_of from j ≡ true
further_right from i j order h = grind arith

-- the row has as many pels as it says
pub length-element_pels : (row : ChangingElements) → length (element_pels row) ≡ row.width
length-element_pels row = length-pels_of_changes row.width (take row.end row.changes.now)

-- and so has the row of these pels
pub placed_width : (row : ChangingElements) (pels : List Colour) → element_pels row ≡ pels → row.width ≡ length pels
placed_width row pels is = sym (length-element_pels row) ∙ ap length is

module _ (row : ChangingElements) where
  rank_from : (i n k : ℕ) → 0 < k → k + n ≡ row.end → get_or row.changes.now (k - 1) 0 ≤ i
      → (j : ℕ) × AreChangesUpTo row.changes.now row.end i j
  rank_from i zero k some sum left_hand = grind (arith, common_steps)
  rank_from i (suc n) k some sum left_hand =
      elim (cases_lt i (get_or row.changes.now k 0)) [
        | inl less ↦ (k, record { some = some; within = omega arith; left_hand = left_hand; right = λ h. less })
        | inr more ↦ rank_from i n (suc k) (omega arith) (omega arith)
            (subst (λ m. get_or row.changes.now m 0 ≤ i) same more)
      ]
    where
      same : k ≡ suc k - 1
      same = omega arith

  -- how many places a place lies after
  rank : (i : ℕ) → (j : ℕ) × AreChangesUpTo row.changes.now row.end i j
  rank i = rank_from i (row.end - 1) 1 (omega arith) (omega (arith, row.elements.ascending.started))
      (omega (arith, row.elements.ascending.first))

  -- a changing element is a place after the first
  place_of_change : (i j : ℕ) → AreChangesUpTo row.changes.now row.end i j → i < row.width
      → is_changing (element_pels row) i ≡ true
      → (1 < j) × (get_or row.changes.now (j - 1) 0 ≡ i)
  place_of_change i j at inside changing = grind (arith, common_steps, unchanging)

  -- a changing element right of a0 and left of the place of b1 is the one before that
  before_b1 : (a0 : Option ℕ) (colour : Colour) (b i j : ℕ) → IsB1At row a0 colour b → i < get_or row.changes.now b 0
      → is_right_of a0 i ≡ true
      → 1 < j → j ≤ row.end → get_or row.changes.now (j - 1) 0 ≡ i → j ≡ b
  before_b1 a0 colour b i j at before right some within is =
      elim (cases_lt (j - 1) b) [
        | inr over ↦ let order = not_later row.elements.ascending b (j - 1) over (omega arith) in absurd (omega arith)
        | inl under ↦
            elim (cases_lt 2 b) [
              | inr few ↦ omega arith
              | inl many ↦
                  elim (cases_lt (b - 2) (j - 1)) [
                    | inl after ↦ omega arith
                    | inr left_hand ↦ absurd (true≢false (sym (passed left_hand) ∙ at.passed many))
                  ]
            ]
      ]
    where
      passed : j - 1 ≤ b - 2 → is_right_of a0 (get_or row.changes.now (b - 2) 0) ≡ true
      passed left_hand =
          further_right a0 i (get_or row.changes.now (b - 2) 0)
          (let order = not_later row.elements.ascending (j - 1) (b - 2) left_hand (omega (arith, at.within))
          in omega arith)
          right

  -- no change of the other colour stands between a0 and that place
  none_left : (a0 : Option ℕ) (colour : Colour) (b i : ℕ) → IsB1At row a0 colour b → i < get_or row.changes.now b 0
      → i < row.width
      → is_right_of a0 i ≡ true → is_changing (element_pels row) i ≡ true
      → not (same_colour (pel (element_pels row) i) colour) ≡ false
  none_left a0 colour b i at before inside right changing =
      let found = rank i in
      let column = place_of_change i found.0 found.1 inside changing in
      let same : found.0 ≡ b = before_b1 a0 colour b i found.0 at before right column.0 found.1.within column.1 in
      same_as (pel (element_pels row) i) colour
      (pel_after row.elements.ascending row.width i found.0 inside found.1 ∙ ap (alternate Black) same ∙ at.colour_is)

  -- from the last place on all places are the width
  pub over_end : (b : ℕ) → row.end ≤ b → b ≤ row.end + 2 → get_or row.changes.now b 0 ≡ row.width
  over_end b over within = grind arith

  pub b1_within : (b : ℕ) → 0 < b → b ≤ row.end + 1 → ((b < row.end) × (get_or row.changes.now b 0 < row.width)) ⊎
      ((row.end ≤ b) × (get_or row.changes.now b 0 ≡ row.width))
  b1_within b some within = grind (arith, common_steps, over_end)

  pub b1_at_most : (b : ℕ) → 0 < b → b ≤ row.end + 1 → get_or row.changes.now b 0 ≤ row.width
  b1_at_most b some within = grind (arith, common_steps, b1_within)

  pub inside_end : (b : ℕ) → 0 < b → b ≤ row.end + 1 → get_or row.changes.now b 0 < row.width → b < row.end
  inside_end b some within inside = grind (arith, common_steps, b1_within)

  -- b1 and b2 stand among the places
  pub b1_index : (b : ℕ) → b ≤ row.end + 1 → b + 1 < length row.changes.now
  b1_index b within = omega (arith, row.elements.room, end_within row.elements)

  -- b1 is the place at that index
  pub b1_is : {a0 : Option ℕ} {colour : Colour} {b : ℕ} → IsB1At row a0 colour b
      → get_or row.changes.now b 0 ≡ b1 (element_pels row) a0 colour
  b1_is {a0 = a0} {colour = colour} {b = b} at =
      next_of_at (element_pels row) a0 colour (get_or row.changes.now b 0) (omega (arith, len, within)) left_hand there
    where
      len : length (element_pels row) ≡ row.width
      len = length-element_pels row

      within : get_or row.changes.now b 0 ≤ row.width
      within = b1_at_most b at.some at.within

      left_hand : (i : ℕ) → i < get_or row.changes.now b 0
          → (is_right_of a0 i && (is_changing (element_pels row) i
          && not (same_colour (pel (element_pels row) i) colour))) ≡ false
      left_hand i h =
          still_left (is_right_of a0 i) (is_changing (element_pels row) i
          && not (same_colour (pel (element_pels row) i) colour))
          (λ right. still_left (is_changing (element_pels row) i)
          (not (same_colour (pel (element_pels row) i) colour))
          (λ changing. none_left a0 colour b i at h (omega (arith, within)) right changing))

      there : get_or row.changes.now b 0 < length (element_pels row)
          → (is_right_of a0 (get_or row.changes.now b 0) && (is_changing (element_pels row) (get_or row.changes.now b 0)
          && not (same_colour (pel (element_pels row) (get_or row.changes.now b 0)) colour))) ≡ true
      there h =
          let inside = inside_end b at.some at.within (omega (arith, len)) in
          and_from (is_right_of a0 (get_or row.changes.now b 0)) _ (at.ahead inside)
          (and_from (is_changing (element_pels row) (get_or row.changes.now b 0)) _
          (changing_at row.elements.ascending row.width (get_or row.changes.now b 0) b at.some inside refl
          (omega (arith, len)))
          (other_than (pel (element_pels row) (get_or row.changes.now b 0)) colour
          (pel_after row.elements.ascending row.width (get_or row.changes.now b 0) (suc b) (omega (arith, len))
          (after inside)
          ∙ alternate-suc Black b ∙ ap other at.colour_is)))
        where
          same : suc b - 1 ≡ b
          same = omega arith

          after : b < row.end → AreChangesUpTo row.changes.now row.end (get_or row.changes.now b 0) (suc b)
          after inside = record {
            some = omega arith;
            within = omega arith;
            left_hand = subst (λ m. get_or row.changes.now m 0 ≤ get_or row.changes.now b 0) (sym same) (omega arith);
            right = λ l. below_later row.elements.ascending b (suc b) at.some (omega arith) l;
          }

  -- and b2 is the one after it
  pub after_b1 : (b : ℕ) → 0 < b → b ≤ row.end + 1
      → get_or row.changes.now (b + 1) 0 ≡ next_change (element_pels row) (Some (get_or row.changes.now b 0))
  after_b1 b some within = grind (
    arith,
    common_steps,
    cases_lt,
    next_here,
    over_end,
    next_change_is,
    length-element_pels,
  )

  pub b2_is : {a0 : Option ℕ} {colour : Colour} {b : ℕ} → IsB1At row a0 colour b
      → get_or row.changes.now (b + 1) 0 ≡ b2 (element_pels row) a0 colour
  b2_is at = grind (arith, after_b1, b1_is)

  pub search_goes_on : (column b : ℕ) → column < row.width → get_or row.changes.now b 0 ≤ column → (colour : Colour)
      → IsBeforeB1 row column colour b → IsBeforeB1 row column colour (b + 2)
  search_goes_on column b inside left_hand colour before = grind arith

  -- and ends at b1
  pub search_ends : (column b : ℕ) → column < get_or row.changes.now b 0 → (colour : Colour)
      → IsBeforeB1 row column colour b → IsB1At row (Some column) colour b
  search_ends column b right colour before = grind (arith, common_steps)

  -- b1 is not left of a0
  pub b1_ahead : (a0 : Option ℕ) {colour : Colour} {b : ℕ} → IsB1At row a0 colour b → unwrap_or a0 0 < row.width
      → unwrap_or a0 0 ≤ get_or row.changes.now b 0
  b1_ahead None at inside = omega arith
  b1_ahead (Some a) {b = b} at inside = grind (arith, b1_within)

  -- and b2 not left of b1
  pub b2_ahead : (b : ℕ) → 0 < b → b ≤ row.end + 1 → get_or row.changes.now b 0 ≤ get_or row.changes.now (b + 1) 0
  b2_ahead b some within = grind (arith, common_steps, over_end)

  pub b2_at_most : (b : ℕ) → 0 < b → b ≤ row.end + 1 → get_or row.changes.now (b + 1) 0 ≤ row.width
  b2_at_most b some within = grind (arith, common_steps, over_end)

  -- after a pass the next place but one is that of b1
  pub b1_passed : {a0 : Option ℕ} {colour : Colour} {b : ℕ} → IsB1At row a0 colour b
      → get_or row.changes.now (b + 1) 0 < row.width
      → IsB1At row (Some (get_or row.changes.now (b + 1) 0)) colour (b + 2)
  b1_passed at inside = grind (arith, common_steps, over_end)

  -- where the search for b1 begins as the colour turns at a place that is not left of b1
  pub right_start : (a0 : Option ℕ) (colour : Colour) (b a1 : ℕ) → IsB1At row a0 colour b
      → get_or row.changes.now b 0 ≤ a1 → a1 < row.width
      → IsBeforeB1 row a1 (other colour) (b + 1)
  right_start a0 colour b a1 at left_hand inside = grind (arith, alternate-suc)

  -- from just under b1 the next place is that of b1
  pub b1_next : {a0 : Option ℕ} {colour : Colour} {b : ℕ} → IsB1At row a0 colour b
      → get_or row.changes.now b 0 < row.width
      → IsB1At row (Some (get_or row.changes.now b 0)) (other colour) (b + 1)
  b1_next {a0 = a0} {colour = colour} {b = b} at inside =
      search_ends (get_or row.changes.now b 0) (b + 1) right (other colour)
      (right_start a0 colour b (get_or row.changes.now b 0) at (omega arith) inside)
    where
      right : get_or row.changes.now b 0 < get_or row.changes.now (b + 1) 0
      right = grind arith

  -- and where it does at a place that is left of b1 and right of a0
  pub left_start : (a0 : Option ℕ) (colour : Colour) (b a1 : ℕ) → IsB1At row a0 colour b → is_right_of a0 a1 ≡ true
      → IsBeforeB1 row a1 (other colour) (b - 1)
  left_start a0 colour b a1 at right = grind (arith, alternate-suc)

  -- and where it does as a0 continues with its colour
  pub same_start : (a0 : Option ℕ) (colour : Colour) (b a : ℕ) → IsB1At row a0 colour b → unwrap_or a0 0 ≤ a
      → IsBeforeB1 row a colour b
  same_start a0 colour b a at order = grind (arith, common_steps)

  -- b1 stands at the next change, or at the one after it, by the colour of a0
  pub b1_here : (a0 : Option ℕ) (k b : ℕ) (colour : Colour) → IsFrom row.changes.now row.end a0 k → (b ≡ k) ⊎ (b
      ≡ k + 1)
      → alternate Black b ≡ colour → IsB1At row a0 colour b
  b1_here a0 k b colour at which is = grind arith

  -- b1 and b2 as `next_of` and `b1_b2` answer them
  pub b1_right : {a0 : Option ℕ} {colour : Colour} {b : ℕ} → IsB1At row a0 colour b
      → get_or row.changes.now b 0 < row.width
      → is_right_of a0 (get_or row.changes.now b 0) ≡ true
  b1_right {b = b} at inside = at.ahead (inside_end b at.some at.within inside)

  pub b2_right : {a0 : Option ℕ} {colour : Colour} {b : ℕ} → IsB1At row a0 colour b
      → get_or row.changes.now (b + 1) 0 < row.width
      → is_right_of a0 (get_or row.changes.now (b + 1) 0) ≡ true
  b2_right at inside = grind arith
