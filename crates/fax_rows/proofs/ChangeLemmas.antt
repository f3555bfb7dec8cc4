-- Changing elements: where the next one stands, and the pels before it.
use Rattle.fax_rows.proofs.ColourLemmas.{same_is}
use Rattle.std.proofs.lemmas.Grind.{common_steps}
use Rattle.std.proofs.Common.{◌≡◌, ℕ, zero, suc, ◌+◌, ◌-◌, ◌<◌, ◌≤◌, List, [], ◌∷◌, ◌++◌, length, take, replicate, Bool}
use Rattle.std.proofs.Common.{true, false}
use Rattle.std.proofs.Common.{refl, ap, sym, ◌∙◌, arith, inl, inr}
use Rattle.std.specs.Prelude.{◌&&◌, Option, Some, None, unwrap_or}
use Rattle.std.proofs.lemmas.Bool.{ltb-true, lt-ltb}
use Rattle.std.proofs.Math.Nat.{eq-or-lt_of_le}
use Rattle.fax_bits.specs.declared.Colour.{Colour}
use Rattle.fax_rows.specs.Rows.{other, pel, pel_before, is_changing, is_right_of, first_index, next_change, b1}
use Rattle.fax_rows.specs.code.Choice.{colour_of}

-- the first of n places from i on that passes the test
pub record IsFirstPlace (test : ℕ → Bool) (i n column : ℕ) : Type 0 where
  pub from : i ≤ column
  pub within : column ≤ i + n
  pub before : (k : ℕ) → i ≤ k → k < column → test k ≡ false
  pub there : column < i + n → test column ≡ true

-- one more place before the others
first_place_more : (test : ℕ → Bool) (i n : ℕ) (passes : Bool) → test i ≡ passes
    → IsFirstPlace test (i + 1) n (first_index test (i + 1) n)
    → IsFirstPlace test i (suc n) (first_index test i (suc n))
unfolding first_index
first_place_more test i n passes is more = grind arith

pub first_place_is : (test : ℕ → Bool) (i n : ℕ) → IsFirstPlace test i n (first_index test i n)
unfolding first_index
first_place_is test i zero = grind (arith, common_steps)
first_place_is test i (suc n) = first_place_more test i n (test i) refl (first_place_is test (i + 1) n)

-- where the next changing element right of a place stands
pub record IsNextChange (row : List Colour) (from : Option ℕ) (column : ℕ) : Type 0 where
  pub within : column ≤ length row
  pub before : (k : ℕ) → k < column → is_right_of from k ≡ true → is_changing row k ≡ false
  pub right : column < length row → is_right_of from column ≡ true
  pub there : column < length row → is_changing row column ≡ true

pub next_change_is : (row : List Colour) (from : Option ℕ) → IsNextChange row from (next_change row from)
unfolding next_change
next_change_is row from = grind (arith, first_place_is)

-- up to the next changing element the pel before each has the colour
pub colour_before : {row : List Colour} (from : Option ℕ) {column : ℕ} → IsNextChange row from column
    → (k : ℕ) → k ≤ column → is_right_of from k ≡ true → pel_before row k ≡ colour_of row from
colour_before None next zero within right = refl
colour_before {row = row} None next (suc k) within right = grind (arith, colour_before None next k (omega arith) refl)
colour_before (Some a) next zero within right = absurd (omega (arith, ltb-true a 0 right))
colour_before {row = row} (Some a) next (suc k) within right =
    elim (eq-or-lt_of_le at_most) [
      | inl same ↦ ap (λ i. pel row i) (sym same)
      | inr less ↦
          same_is (pel row k) (pel_before row k) (next.before k (omega arith) (lt-ltb a k less))
          ∙ colour_before (Some a) next k (omega arith) (lt-ltb a k less)
    ]
  where
    at_most : a ≤ k
    at_most = omega (arith, ltb-true a (suc k) right)

-- where a0 stands as a number of pels: those before it are written
abbrev pub first_of : Option ℕ → ℕ
first_of from = unwrap_or from 0

right_after : (from : Option ℕ) (k : ℕ) → first_of from ≤ k → is_right_of from (suc k) ≡ true
right_after from k h = grind arith

-- the pels from a place up to the next changing element have one colour
pub colour_up_to : {row : List Colour} {from : Option ℕ} {column : ℕ} → IsNextChange row from column
    → (k : ℕ) → first_of from ≤ k → k < column → pel row k ≡ colour_of row from
colour_up_to {from = from} next k after before = colour_before from next (suc k) (omega arith)
    (right_after from k after)

-- and the changing element has the other
pub colour_at : {row : List Colour} {from : Option ℕ} {column : ℕ} → IsNextChange row from column
    → column < length row → pel row column ≡ other (colour_of row from)
colour_at next inside = grind (arith, common_steps, colour_before)

-- the next changing element is not left of the place
pub next_is_ahead : {row : List Colour} (from : Option ℕ) {column : ℕ} → IsNextChange row from column
    → first_of from ≤ length row → first_of from ≤ column
next_is_ahead None next within = omega arith
next_is_ahead {row = row} (Some a) {column = column} next within = grind (arith, common_steps)

-- pels of one colour
replicate_pels : (row : List Colour) (n : ℕ) (colour : Colour) → n ≤ length row
    → ((k : ℕ) → k < n → pel row k ≡ colour) → replicate n colour ≡ take n row
replicate_pels row zero colour within each = refl
replicate_pels [] (suc n) colour within each = absurd (omega arith)
replicate_pels (first ∷ row) (suc n) colour within each =
    let here : first ≡ colour = each zero (omega arith) in
    let more = replicate_pels row n colour (omega arith) (λ k h. each (suc k) (omega arith)) in
    cc

-- the pels before `to` are those before `from` and a run
pub pels_up_to : (row : List Colour) (from to : ℕ) (colour : Colour) → from ≤ to → to ≤ length row
    → ((k : ℕ) → from ≤ k → k < to → pel row k ≡ colour) → take from row ++ replicate (to - from) colour ≡ take to row
pels_up_to row zero to colour order within each = grind (arith, common_steps, replicate_pels)
pels_up_to [] (suc from) to colour order within each = absurd (omega arith)
pels_up_to (first ∷ row) (suc from) zero colour order within each = absurd (omega arith)
pels_up_to (first ∷ row) (suc from) (suc to) colour order within each =
    grind (
      arith,
      pels_up_to row from to colour (omega arith) (omega arith)
          (λ k h l. each (suc k) (omega arith) (omega arith)),
    )

-- the next changing element of another colour lies in the row or is its width, right of the place
pub next_of_within : (row : List Colour) (from : Option ℕ) (colour : Colour) → b1 row from colour ≤ length row
unfolding b1
next_of_within row from colour = grind (arith, first_place_is)

pub next_of_right : (row : List Colour) (from : Option ℕ) (colour : Colour) → b1 row from colour < length row
    → is_right_of from (b1 row from colour) ≡ true
unfolding b1
next_of_right row from colour inside = grind (arith, first_place_is)

pub still_left : (right change : Bool) → (right ≡ true → change ≡ false) → (right && change) ≡ false
still_left right change h = grind arith
