-- A step that is read as T.4 would have chosen it.
use Rattle.fax_rows.proofs.ColourLemmas.{other-other, other_than, same_as}
use Rattle.std.proofs.Common.{rules, ◌≡◌, ℕ, ◌+◌, ◌-◌, ◌<◌, ◌≤◌, ℤ, negsuc, ◌-ℤ◌, List, ◌++◌, length, take, replicate}
use Rattle.std.proofs.Common.{get_or, Bool, true}
use Rattle.std.proofs.Common.{false, pos, refl, ap, sym, ◌∙◌, subst, arith, inl, inr, take-take, take_at, append_assoc}
use Rattle.std.proofs.Common.{append-nil}
use Rattle.std.proofs.lemmas.Grind.{common_steps}
use Rattle.std.specs.Prelude.{◌⊎◌, Option, Some, None, unwrap_or, ◌<ℤ◌, nat_abs, nat_lt, nat_le}
use Rattle.std.proofs.lemmas.Bool.{and_from, cases_lt, ltb-true, lt-ltb}
use Rattle.std.proofs.lemmas.Bool.Decides.{nat_tests}
use Rattle.std.proofs.lemmas.Int.{ints}
use Rattle.std.proofs.lemmas.List.{get_or-replicate}
use Rattle.std.proofs.Math.Seq.{get_or-append_right}
use Rattle.std.proofs.Math.Nat.{eq-or-lt_of_le}
use Rattle.fax_bits.specs.declared.Colour.{Colour}
use Rattle.fax_bits.specs.declared.Colour.TheVariants.{White}
use Rattle.fax_bits.specs.declared.mode_codes.ModeCode.{ModeCode}
use Rattle.fax_bits.specs.declared.mode_codes.ModeCode.TheVariants.{Pass, Horizontal, Vertical}
use Rattle.fax_bits.specs.Written.{mode_bits, run_bits}
use Rattle.fax_rows.specs.Rows.{other, pel, pel_before, is_changing, is_right_of, next_change, Position, first_pel}
use Rattle.fax_rows.specs.Rows.{a0_number}
use Rattle.fax_rows.specs.Rows.{coloured_up_to}
use Rattle.fax_rows.specs.code.CodingSteps.{IsVerticalStep}
use Rattle.fax_rows.specs.code.Seen.{b1_from, b2_from}
use Rattle.fax_rows.specs.code.Choice.{Places, changes, colour_of, canonical_mode, run_pair_bits, next_a0}
use Rattle.fax_rows.specs.code.Chosen.{ExtendsPosition, IsStepOf, IsCanonicalPair}
use Rattle.fax_rows.proofs.ChangeLemmas.{first_of, next_change_is, still_left}
use Rattle.fax_rows.proofs.ChangePlaceLemmas.{next_change_at}
use Rattle.fax_rows.proofs.PlacedStepLemmas.{right_after_first}
use Rattle.fax_rows.proofs.TakenModeLemmas.{is_near}

-- ---- pels of one colour from a place on

module _ (row : List Colour) (from : Option ℕ) (colour : Colour) (to : ℕ) (start : from ≡ None → White ≡ colour)
    (each : (k : ℕ) → first_of from ≤ k → k < to → pel row k ≡ colour) where
  before_is : (k : ℕ) → k ≤ to → is_right_of from k ≡ true → pel_before row k ≡ colour
  before_is k within right = grind arith

  next_is : to ≤ length row → is_right_of from to ≡ true → (to < length row → pel row to ≡ other colour)
      → to ≡ next_change row from
  next_is within right toggle_change =
      next_change_at row from to within
      (λ k h. still_left (is_right_of from k) (is_changing row k)
      (λ l. same_as (pel row k) (pel_before row k) (each k (right_after_first from k l) h
      ∙ sym (before_is k (omega arith) l))))
      (λ h. and_from (is_right_of from to) (is_changing row to) right
      (other_than (pel row to) (pel_before row to) (toggle_change h
      ∙ ap other (sym (before_is to (omega arith) right)))))

  -- where the colour continues, the next changing element is further right
  next_after : to < length row → pel row to ≡ colour → to < next_change row from
  next_after inside goes_on = grind (arith, next_change_is)

-- at the width there is no changing element any more
none_after : (row : List Colour) (a : ℕ) → length row ≤ a → next_change row (Some a) ≡ length row
none_after row a over = grind (arith, common_steps, next_change_is)

-- ---- pels that are read, and those after them

module _ (row old tail : List Colour) (first to : ℕ) (len : length old ≡ first) (order : first ≤ to)
    (within : to ≤ length row)
    (read : old ++ tail ≡ take to row) where
  read_before : old ≡ take first row
  read_before = sym (take_at old tail first len) ∙ ap (take first) read ∙ take-take first to row order

  pel_after : (k : ℕ) → first ≤ k → k < to → pel row k ≡ get_or tail (k - first) White
  pel_after k low high = grind (arith, common_steps, get_or-append_right)

right_of_number : (a0 : Option ℕ) (colour : Colour) (pels : List Colour) (a1 : ℕ)
    → a0_number (record { a0 = a0; colour = colour; pels = pels }) <ℤ pos a1 → is_right_of a0 a1 ≡ true
right_of_number a0 colour pels a1 h = grind arith

far_apart : (z : ℤ) → (pos 3 <ℤ z) ⊎ (z <ℤ negsuc 2) → 3 < nat_abs z
far_apart z h = grind arith

apart : (a b : ℕ) → (a + 3 < b) ⊎ (b + 3 < a) → (pos 3 <ℤ (pos a -ℤ pos b)) ⊎ ((pos a -ℤ pos b) <ℤ negsuc 2)
apart a b h = grind arith

-- ---- a step by the mode that T.4 chooses

module _ (reference row : List Colour) (same : length row ≡ length reference) (old : Position)
    (start : old.a0 ≡ None → White ≡ old.colour)
    (len : length old.pels ≡ first_pel old) (unfinished : first_pel old < length reference) where
  -- the pels that are read continue up to a place right of a0
  goes_on_from : (to : ℕ) (tail : List Colour) → first_pel old ≤ to → to ≤ length row → old.pels ++ tail ≡ take to row
      → ((a : ℕ) → old.a0 ≡ Some a → a < length row → pel row a ≡ old.colour) → ExtendsPosition row old
  goes_on_from to tail order within read coloured = search (rules, read_before)

  old_colour : ExtendsPosition row old → first_pel old < length row → colour_of row old.a0 ≡ old.colour
  old_colour goes inside = grind (arith, common_steps)

  -- what the mode that is chosen writes, and where it leads
  step_is : (at : Places) (mode : ModeCode) (b : List Bool) (new : Position) (rest : List Bool)
      → ExtendsPosition row old
      → changes reference row old.a0 ≡ at → canonical_mode at ≡ mode → new.a0 ≡ Some (next_a0 mode at)
      → b ≡ (mode_bits mode ++ run_pair_bits mode row old.a0 at) ++ rest → IsStepOf reference row old b new rest
  step_is at mode b new rest goes at_is mode_is column bits = grind (arith, common_steps)

  places_are : (a1 a2 : ℕ) → a1 ≡ next_change row old.a0 → a2 ≡ next_change row (Some a1)
      → colour_of row old.a0 ≡ old.colour
      → changes reference row old.a0 ≡ record {
        a1 = a1;
        a2 = a2;
        b1 = b1_from reference old;
        b2 =
            b2_from reference old;
      }
  places_are a1 a2 first second colour = rw (second, first, colour) refl

  pub vertical_is : (d : ℤ) (b : List Bool) (new : Position) (rest : List Bool) → IsVerticalStep reference old d new
      → b ≡ mode_bits (Vertical d) ++ rest → is_near (Vertical d) ≡ true → first_pel new ≤ b2_from reference old
      → ExtendsPosition row new
      → IsStepOf reference row old b new rest
  vertical_is d b new rest step bits near remaining goes =
      let goes_on = subst (ExtendsPosition row) step.new_is goes in
      let a1 = step.a1 in
      let a1_left : a1 ≤ b2_from reference old = rw step.new_is at remaining in
      let right : is_right_of old.a0 a1 ≡ true =
      right_of_number old.a0 old.colour old.pels a1 (omega (arith, ints, step.a1_is, step.in_row.right_of_a0)) in
      let order : first_pel old ≤ a1 = right_after_first old.a0 a1 right in
      let within : a1 ≤ length row = omega (arith, ints, step.a1_is, step.in_row.within, same) in
      let each : (k : ℕ) → first_pel old ≤ k → k < a1 → pel row k ≡ old.colour = λ k h l.
      pel_after row old.pels _ (first_pel old) a1 len order within goes_on.read k h l
      ∙ get_or-replicate (a1 - first_pel old) (k - first_pel old) old.colour White (omega arith) in
      let before = goes_on_from a1 _ order within goes_on.read
      (λ a is inside. let here = ap first_of is in let less = ltb-true a a1
      (subst (λ o. is_right_of o a1 ≡ true) is right) in
      each a (omega arith) less) in
      let inside : first_pel old < length row = omega (arith, same, unfinished) in
      let first = next_is row old.a0 old.colour a1 start each within right (goes_on.coloured a1 refl) in
      let at = places_are a1 _ first refl (old_colour before inside) in
      let not_pass : nat_lt (b2_from reference old) a1 ≡ false = grind (arith, nat_tests) in
      let difference : pos a1 -ℤ pos (b1_from reference old) ≡ d = omega (arith, ints, step.a1_is) in
      step_is _ (Vertical d) b new rest before at (rw (not_pass, difference, near) refl)
      (ap (λ (p : Position). p.a0) step.new_is)
      (bits ∙ ap (λ c. c ++ rest) (sym (append-nil (mode_bits (Vertical d)))))

  pub pass_is : (b : List Bool) (new : Position) (rest : List Bool) → new ≡ coloured_up_to old (b2_from reference old)
      → b ≡ mode_bits Pass ++ rest → first_pel old ≤ b2_from reference old → first_pel new < length reference
      → ExtendsPosition row new
      → IsStepOf reference row old b new rest
  pass_is b new rest new_is bits order ends goes =
      let goes_on = subst (ExtendsPosition row) new_is goes in
      let to = b2_from reference old in
      let to_ends : to < length reference = rw new_is at ends in
      let below : to < length row = omega (arith, same) in
      let within : to ≤ length row = omega arith in
      let here : pel row to ≡ old.colour = goes_on.coloured to refl below in
      let each : (k : ℕ) → first_pel old ≤ k → k < to → pel row k ≡ old.colour = λ k h l.
      pel_after row old.pels _ (first_pel old) to len order within goes_on.read k h l
      ∙ get_or-replicate (to - first_pel old) (k - first_pel old) old.colour White (omega arith) in
      let before = goes_on_from to _ order within goes_on.read
      (λ a is inside. let first = ap first_of is in elim (eq-or-lt_of_le order) [
        | inl at_to ↦ ap (pel row) (omega arith) ∙ here
        | inr less ↦ each a (omega arith) (omega arith)
      ]) in
      let after = next_after row old.a0 old.colour to start each below here in
      let at = places_are (next_change row old.a0) _ refl refl (old_colour before (omega (arith, same, unfinished))) in
      let is_pass : nat_lt to (next_change row old.a0) ≡ true = grind (arith, nat_tests) in
      step_is _ Pass b new rest before at (rw is_pass refl) (ap (λ (p : Position). p.a0) new_is)
      (bits ∙ ap (λ c. c ++ rest) (sym (append-nil (mode_bits Pass))))

  -- the pels of two runs
  run_first : (first second k : ℕ) → k < first
      → get_or (replicate first old.colour ++ replicate second (other old.colour)) k White ≡ old.colour
  run_first first second k h = grind (arith, common_steps)

  run_second : (first second k : ℕ) → first ≤ k → k < first + second
      → get_or (replicate first old.colour ++ replicate second (other old.colour)) k White ≡ other old.colour
  run_second first second k h l = grind (arith, common_steps)

  -- where the second of two runs ends
  second_ends : (a1 to : ℕ) → a1 ≤ to → to ≤ length row → (a1 < length row → a1 < to)
      → ((k : ℕ) → a1 ≤ k → k < to → pel row k ≡ other old.colour) → (to < length row → pel row to ≡ old.colour)
      → to ≡ next_change row (Some a1)
  second_ends a1 to order within some each there =
      elim (cases_lt a1 (length row)) [
        | inl inside ↦ next_is row (Some a1) (other old.colour) to (λ h. absurd (cc h)) each within
            (lt-ltb a1 to (some inside))
            (λ h. there h ∙ sym (other-other old.colour))
        | inr over ↦ omega (arith, none_after row a1 over)
      ]

  pub horizontal_is : {b middle : List Bool} {new : Position} {rest : List Bool}
      → IsCanonicalPair reference old middle new rest
      → b ≡ mode_bits Horizontal ++ middle → ExtendsPosition row new → IsStepOf reference row old b new rest
  horizontal_is {b = b} {new = new} {rest = rest} pair bits goes =
      let goes_on = subst (ExtendsPosition row) pair.new_is goes in
      let first = pair.first in
      let second = pair.second in
      let a1 = first_pel old + first in
      let to = first_pel old + first + second in
      let within : to ≤ length row = omega (arith, pair.within, same) in
      let order : first_pel old ≤ to = omega arith in
      let tail = replicate first old.colour ++ replicate second (other old.colour) in
      let read : old.pels ++ tail ≡ take to row =
      sym (append_assoc old.pels (replicate first old.colour) (replicate second (other old.colour))) ∙ goes_on.read in
      let after = pel_after row old.pels tail (first_pel old) to len order within read in
      let each : (k : ℕ) → first_pel old ≤ k → k < a1 → pel row k ≡ old.colour = λ k h l.
      after k h (omega arith) ∙ run_first first second (k - first_pel old) (omega arith) in
      let each_other : (k : ℕ) → a1 ≤ k → k < to → pel row k ≡ other old.colour = λ k h l.
      after k (omega arith) l ∙ run_second first second (k - first_pel old) (omega arith) (omega arith) in
      let before = goes_on_from to tail order within read
      (λ a is inside. let here = ap first_of is in let less = ltb-true a a1
      (subst (λ o. is_right_of o a1 ≡ true) is pair.right) in
      each a (omega arith) less) in
      let colour = old_colour before (omega (arith, same, unfinished)) in
      let a1_is = next_is row old.a0 old.colour a1 start each (omega arith) pair.right
      (λ h. each_other a1 (omega arith) (let some = pair.some (omega (arith, same)) in omega arith)) in
      let a2_is = second_ends a1 to (omega arith) within (λ h. let some = pair.some (omega (arith, same)) in
      omega arith) each_other
      (goes_on.coloured to refl) in
      let at = places_are a1 to a1_is a2_is colour in
      let not_pass : nat_lt (b2_from reference old) a1 ≡ false = let left_hand = pair.left_hand
      in grind (arith, nat_tests) in
      let far = far_apart (pos a1 -ℤ pos (b1_from reference old)) (apart a1 (b1_from reference old) pair.far) in
      let not_near : nat_le (nat_abs (pos a1 -ℤ pos (b1_from reference old))) 3 ≡ false = grind (arith, nat_tests) in
      let first_is : a1 - unwrap_or old.a0 0 ≡ first = omega arith in
      let second_is : to - a1 ≡ second = omega arith in
      let runs : run_pair_bits Horizontal row old.a0
      (record { a1 = a1; a2 = to; b1 = b1_from reference old; b2 = b2_from reference old })
      ≡ run_bits old.colour first ++ run_bits (other old.colour) second = rw (colour, first_is, second_is) refl in
      step_is _ Horizontal b new rest before at (rw (not_pass, not_near) refl) (ap (λ (p : Position). p.a0) pair.new_is)
      (bits ∙ ap (λ c. mode_bits Horizontal ++ c) (pair.bits ∙ ap (λ c. c ++ rest) (sym runs))
      ∙ sym (append_assoc (mode_bits Horizontal) _ rest))
