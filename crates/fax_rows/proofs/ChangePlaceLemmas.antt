-- Changing elements, place by place.
use Rattle.std.proofs.Common.{◌≡◌, ℕ, zero, suc, ◌+◌, ◌<◌, ◌≤◌, Bool, true, false, cond, List, length, Option, ap, sym}
use Rattle.std.proofs.Common.{◌∙◌, arith}
use Rattle.std.proofs.Common.{inl, inr}
use Rattle.std.specs.Prelude.{◌⊎◌, ◌&&◌, not}
use Rattle.std.proofs.lemmas.Bool.{true≢false}
use Rattle.std.proofs.Math.Nat.{eq-or-lt_of_le}
use Rattle.fax_bits.specs.declared.Colour.{Colour}
use Rattle.fax_rows.specs.Rows.{first_index, next_change, b1, is_right_of, is_changing, same_colour, pel}

-- one place of a search
first_place_by : (b : Bool) (i more r : ℕ) → (b ≡ true → i ≡ r) → (b ≡ false → more ≡ r) → cond b i more ≡ r
first_place_by b i more r pass fail = grind arith

-- the first place that passes a test, or the place after them all
pub first_place_at : (test : ℕ → Bool) (i n r : ℕ) → i ≤ r → r ≤ i + n
    → ((k : ℕ) → i ≤ k → k < r → test k ≡ false) → (r < i + n → test r ≡ true) → first_index test i n ≡ r
unfolding first_index
first_place_at test i zero r low high remaining at = omega arith
first_place_at test i (suc n) r low high remaining at =
    first_place_by (test i) i (first_index test (i + 1) n) r
    (λ pass. here pass (eq-or-lt_of_le low))
    (λ fail. let less = right fail (eq-or-lt_of_le low) in
    first_place_at test (i + 1) n r (omega arith) (omega arith) (λ k l h. remaining k (omega arith) h)
    (λ h. at (omega arith)))
  where
    here : test i ≡ true → (i ≡ r) ⊎ (i < r) → i ≡ r
    here pass (inl same) = same
    here pass (inr less) = absurd (true≢false (sym pass ∙ remaining i (omega arith) less))

    right : test i ≡ false → (i ≡ r) ⊎ (i < r) → i < r
    right fail (inl same) = absurd (true≢false (sym (at (omega arith)) ∙ ap test (sym same) ∙ fail))
    right fail (inr less) = less

-- the next changing element
pub next_change_at : (row : List Colour) (from : Option ℕ) (r : ℕ) → r ≤ length row
    → ((k : ℕ) → k < r → (is_right_of from k && is_changing row k) ≡ false)
    → (r < length row → (is_right_of from r && is_changing row r) ≡ true) → r ≡ next_change row from
unfolding next_change
next_change_at row from r within remaining at =
    sym (first_place_at (λ i. is_right_of from i && is_changing row i) 0 (length row) r (omega arith) (omega arith)
    (λ k l h. remaining k h) (λ h. at (omega arith)))

-- the next changing element that is not of a colour
pub next_of_at : (row : List Colour) (from : Option ℕ) (colour : Colour) (r : ℕ) → r ≤ length row
    → ((k : ℕ) → k < r → (is_right_of from k && (is_changing row k && not (same_colour (pel row k) colour))) ≡ false)
    → (r < length row → (is_right_of from r && (is_changing row r && not (same_colour (pel row r) colour))) ≡ true)
    → r ≡ b1 row from colour
unfolding b1
next_of_at row from colour r within remaining at =
    sym (first_place_at (λ i. is_right_of from i && (is_changing row i && not (same_colour (pel row i) colour))) 0
    (length row) r
    (omega arith) (omega arith)
    (λ k l h. remaining k h) (λ h. at (omega arith)))
