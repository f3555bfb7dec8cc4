-- Rows in two-dimensional coding as they are read, step by step.
use Rattle.std.proofs.Common.{arith, ◌≡◌, ◌≢◌, ℕ, ◌+◌, ◌-◌, ◌<◌, ◌≤◌, List, ◌++◌, length, Bool, true, false}
use Rattle.std.proofs.Common.{cond}
use Rattle.std.proofs.Common.{refl, ap, sym, subst, ◌∙◌, inl, inr, Option, Some, None, replicate}
use Rattle.std.specs.Prelude.{unwrap_or, ℤ, pos, negsuc, ◌+ℤ◌, ◌<ℤ◌, ◌≤ℤ◌, nat_abs, int_lt, int_le, ◌&&◌}
use Rattle.std.proofs.lemmas.Int.{ints}
use Rattle.std.proofs.lemmas.Bool.{and_parts}
use Rattle.std.proofs.lemmas.Bool.Decides.{nat_tests}
use Rattle.fax_bits.specs.declared.Colour.{Colour}
use Rattle.fax_bits.specs.declared.mode_codes.ModeCode.{ModeCode}
use Rattle.fax_bits.specs.declared.mode_codes.ModeCode.TheVariants.{Pass, Horizontal, Vertical}
use Rattle.fax_bits.specs.declared.mode_codes.ModeCode.TheVariants.{Extension as ModeExtension}
use Rattle.fax_bits.specs.Tables.{modes}
use Rattle.fax_bits.specs.Codes.{Decodes, IsRun}
use Rattle.fax_bits.specs.Reading.{Read, read, failed, map_fault, Step, onward, done, stopped, step_by}
use Rattle.fax_bits.specs.code.TableLaws.{modes_has_short_codes, modes_is_prefix_free}
use Rattle.fax_bits.proofs.CodeLemmas.{taken_is_read}
use Rattle.fax_bits.proofs.PrefixLemmas.{takes_bits}
use Rattle.fax_bits.proofs.StepsLemmas.{bind_read, goes, fails, by_step, step_on, step_fails, step_onward}
use Rattle.fax_rows.specs.declared.RowFault.{RowFault}
use Rattle.fax_rows.specs.declared.RowFault.TheVariants.{DataEnds, OutOfRow}
use Rattle.fax_rows.specs.Rows.{b1, other, Position, first_pel, a0_number, coloured_up_to}
use Rattle.fax_rows.specs.code.CodingSteps.{IsInRow, IsStepBy, IsStep}
use Rattle.fax_rows.specs.code.CodingSteps.{IsVerticalStep}
use Rattle.fax_rows.specs.code.CodingSteps.{IsModeFault, IsStepFault}
use Rattle.fax_rows.specs.ReadRows.{row_fault, row_code, read_run, by_mode, vertical_step, is_in_row, coloured_twice}
use Rattle.fax_rows.specs.ReadRows.{read_step, read_steps, coding_step, is_ended}
use Rattle.fax_rows.proofs.RunReadLemmas.{run_read, run_shorter, is_run_to, code_taken}

is_true : (test : Bool) → (test ≡ false → ⊥) → test ≡ true
is_true true not = refl
is_true false not = absurd (not refl)

pub is_false : (test : Bool) → (test ≡ true → ⊥) → test ≡ false
is_false false not = refl
is_false true not = absurd (not refl)

-- two runs of these lengths
pub twice_is : (old : Position) (a1 a2 n m : ℕ) → a1 ≡ first_pel old + n → a2 ≡ a1 + m
    → coloured_twice old a1 a2
    ≡ record {
      a0 = Some (first_pel old + n + m);
      colour = old.colour;
      pels = old.pels ++ replicate n old.colour ++ replicate m (other old.colour);
    }
twice_is old a1 a2 n m first second =
    let end : a2 ≡ first_pel old + n + m = omega (arith, first, second) in
    let long : a1 - first_pel old ≡ n = omega (arith, first) in
    let more : a2 - a1 ≡ m = omega (arith, second) in
    cc (end, long, more)

-- a1 in vertical mode, and its test
abbrev a1_at : List Colour → Position → ℤ → ℤ
a1_at reference old d = pos (b1 reference old.a0 old.colour) +ℤ d

in_row_test : (reference : List Colour) (old : Position) (d : ℤ) → IsInRow reference old d
    → is_in_row reference old (a1_at reference old d) ≡ true
in_row_test reference old d in_row =
    let z = a1_at reference old d in
    let right : int_lt (a0_number old) z ≡ true = is_true _ (λ no. omega (arith, ints, in_row.right_of_a0, no)) in
    let within : int_le z (pos (length reference)) ≡ true = is_true _ (λ no. omega (arith, ints, in_row.within, no)) in
    ap (λ t. t && int_le z (pos (length reference))) right ∙ within

pub test_in_row : (reference : List Colour) (old : Position) (d : ℤ)
    → is_in_row reference old (a1_at reference old d) ≡ true → IsInRow reference old d
test_in_row reference old d is =
    let parts = and_parts (int_lt (a0_number old) (a1_at reference old d))
    (int_le (a1_at reference old d) (pos (length reference))) is in
    record { right_of_a0 = omega (arith, ints, parts.0); within = omega (arith, ints, parts.1) }

vertical_read : (reference : List Colour) (old : Position) (z : ℤ) (rest : List Bool) → is_in_row reference old z ≡ true
    → vertical_step reference old z rest ≡ read (record (coloured_up_to old (nat_abs z)) { colour = other old.colour })
    rest
vertical_read reference old z rest is = rw (is) refl

vertical_fails : (reference : List Colour) (old : Position) (z : ℤ) (rest : List Bool) → is_in_row reference old z
    ≡ false
    → vertical_step reference old z rest ≡ failed OutOfRow
vertical_fails reference old z rest is = rw (is) refl

-- the test of the row's end
pub ended_is : (reference : List Colour) (a0 : Option ℕ) → is_ended reference a0 ≡ true → a0 ≡ Some (length reference)
ended_is reference None is = cc
ended_is reference (Some a) is = grind (arith, nat_tests)

pub is_ended_of : (reference : List Colour) (a0 : Option ℕ) → a0 ≡ Some (length reference) → is_ended reference a0
    ≡ true
is_ended_of reference None is = cc
is_ended_of reference (Some a) is = grind (arith, nat_tests)

-- a mode that is taken is read
mode_code : (b : List Bool) (mode : ModeCode) (rest : List Bool) → Decodes modes b mode rest
    → row_code modes b ≡ read mode rest
mode_code b mode rest taken = ap (map_fault row_fault) (taken_is_read b modes modes_is_prefix_free mode rest taken)

mode_of : (reference : List Colour) (old : Position) (mode : ModeCode) (b : List Bool) (new : Position)
    (rest : List Bool)
    → IsStepBy mode reference old b new rest → by_mode reference old mode b ≡ read new rest
mode_of reference old Pass b new rest step = cc (step.0, step.1)
mode_of reference old (Vertical d) b new rest step =
    let in_row = in_row_test reference old d step.0.in_row in
    let column : nat_abs (a1_at reference old d) ≡ step.0.a1 = ap nat_abs (sym step.0.a1_is) in
    vertical_read reference old (a1_at reference old d) b in_row ∙ cc (column, step.0.new_is, step.1)
mode_of reference old Horizontal b new rest step =
    let a1 = first_pel old + step.first in
    goes _ (run_read (length reference) (first_pel old) step.first step.first_run (omega (arith, step.within))).0
    (goes _ (run_read (length reference) a1 step.second step.second_run step.within).0
    (let same = twice_is old a1 (a1 + step.second) step.first step.second refl refl in cc (same, step.new_is)))
mode_of reference old ModeExtension b new rest step = absurd step

mode_fault_of : (reference : List Colour) (old : Position) (mode : ModeCode) (b : List Bool) (fault : RowFault)
    → IsModeFault mode reference old b fault → by_mode reference old mode b ≡ failed fault
mode_fault_of reference old Pass b fault at = absurd at
mode_fault_of reference old (Vertical d) b fault at =
    vertical_fails reference old (a1_at reference old d) b
    (is_false _ (λ yes. at.0 (test_in_row reference old d yes))) ∙ ap (λ f. failed f) (sym at.1)
mode_fault_of reference old Horizontal b fault (inl at) = fails _ at
mode_fault_of reference old Horizontal b fault (inr at) =
    goes _ (run_read (length reference) (first_pel old) at.0 at.2 at.3).0 (fails _ at.4)
mode_fault_of reference old ModeExtension b fault at = ap (λ f. failed f) (sym at)

step_of : (reference : List Colour) (old : Position) (b : List Bool) (new : Position) (rest : List Bool)
    → IsStep reference old b new rest → read_step reference old b ≡ read new rest
step_of reference old b new rest step =
    goes (by_mode reference old) (mode_code b step.mode step.after step.taken)
    (mode_of reference old step.mode step.after new rest step.step)

step_fault_of : (reference : List Colour) (old : Position) (b : List Bool) (fault : RowFault)
    → IsStepFault reference old b fault → read_step reference old b ≡ failed fault
step_fault_of reference old b fault (inl none) = fails (by_mode reference old) none
step_fault_of reference old b fault (inr at) =
    goes (by_mode reference old) (mode_code b at.0 at.1 at.2) (mode_fault_of reference old at.0 at.1 fault at.3)

-- a number that is not below 0 is a place
abs_is : (z : ℤ) → negsuc 0 <ℤ z → pos (nat_abs z) ≡ z
abs_is (pos n) h = refl
abs_is (negsuc n) h = absurd (omega (arith, ints))

below_number : (a0 : Option ℕ) (colour : Colour) (pels : List Colour)
    → negsuc 0 ≤ℤ a0_number (record { a0 = a0; colour = colour; pels = pels })
below_number None colour pels = omega (arith, ints)
below_number (Some a) colour pels = omega (arith, ints)

abbrev IsReadAs : Read Position RowFault → Position → List Bool → Type 0
IsReadAs r new rest = r ≡ read new rest

vertical_is : (reference : List Colour) (at : Position) (d : ℤ) (b : List Bool) (new : Position) (rest : List Bool)
    → vertical_step reference at (a1_at reference at d) b ≡ read new rest
    → IsVerticalStep reference at d new × (b ≡ rest)
vertical_is reference at d b new rest is = by (is_in_row reference at (a1_at reference at d)) refl is
  where
    by : (test : Bool) → is_in_row reference at (a1_at reference at d) ≡ test
        → IsReadAs (cond test
        (read (record (coloured_up_to at (nat_abs (a1_at reference at d))) { colour = other at.colour }) b)
        (failed OutOfRow)) new rest
        → IsVerticalStep reference at d new × (b ≡ rest)
    by true there same =
        let in_row = test_in_row reference at d there in
        let below : negsuc 0 ≤ℤ a0_number at = below_number at.a0 at.colour at.pels in (
          record {
            in_row = in_row;
            a1 = nat_abs (a1_at reference at d);
            a1_is = abs_is (a1_at reference at d) (omega (arith, ints, in_row.right_of_a0, below));
            new_is = cc (same);
          },
          cc (same),
        )
    by false there same = absurd (cc (same))

-- what a mode that is read does
mode_is : (reference : List Colour) (at : Position) (mode : ModeCode) (b : List Bool) (new : Position) (rest : List
    Bool)
    → by_mode reference at mode b ≡ read new rest → IsStepBy mode reference at b new rest
mode_is reference at Pass b new rest is = (cc (is), cc (is))
mode_is reference at (Vertical d) b new rest is = vertical_is reference at d b new rest is
mode_is reference at Horizontal b new rest is =
    let first = bind_read (read_run at.colour (length reference) (first_pel at) b) _ _ _ is in
    let second = bind_read (read_run (other at.colour) (length reference) first.0 first.1) _ _ _ first.3 in
    let run = is_run_to at.colour (length reference) (first_pel at) b first.0 first.1 first.2 in
    let another = is_run_to (other at.colour) (length reference) first.0 first.1 second.0 second.1 second.2 in
    let remaining : second.1 ≡ rest = cc (second.3) in
    let there : coloured_twice at first.0 second.0 ≡ new = cc (second.3) in
    record {
      first = run.n;
      second = another.n;
      middle = first.1;
      first_run = run.run;
      second_run = subst (λ c. IsRun (other at.colour) first.1 another.n c) remaining another.run;
      within = omega (arith, run.ends, another.ends, another.inside);
      new_is = sym there ∙ twice_is at first.0 second.0 run.n another.n run.ends another.ends;
    }
mode_is reference at ModeExtension b new rest is = absurd (cc (is))

step_is : (reference : List Colour) (at : Position) (b : List Bool) (new : Position) (rest : List Bool)
    → read_step reference at b ≡ read new rest → IsStep reference at b new rest
step_is reference at b new rest is =
    let code = bind_read (row_code modes b) (by_mode reference at) new rest is in
    record {
      mode = code.0;
      after = code.1;
      taken = code_taken modes b code.0 code.1 code.2;
      step = mode_is reference at code.0 code.1 new rest code.3;
    }

step_shorter : (reference : List Colour) (old : Position) (mode : ModeCode) (b : List Bool) (new : Position)
    (rest : List Bool)
    → IsStepBy mode reference old b new rest → length rest ≤ length b
step_shorter reference old Pass b new rest step = omega (arith, ap length step.1)
step_shorter reference old (Vertical d) b new rest step = omega (arith, ap length step.1)
step_shorter reference old Horizontal b new rest step =
    omega (arith, run_shorter step.first_run, run_shorter step.second_run)
step_shorter reference old ModeExtension b new rest step = absurd step

abbrev GoesOnTo : Step Position (List Colour) RowFault → Position → List Bool → Type 0
GoesOnTo step new rest = step ≡ onward new rest

abbrev EndsAs : Step Position (List Colour) RowFault → List Colour → List Bool → Type 0
EndsAs step pels rest = step ≡ done pels rest

-- what continues is a step before the row's end
pub onward_is : (reference : List Colour) (at : Position) (b : List Bool) (new : Position) (rest : List Bool)
    → coding_step reference at b ≡ onward new rest → IsStep reference at b new rest
onward_is reference at b new rest is = by (is_ended reference at.a0) is
  where
    by : (test : Bool)
        → GoesOnTo (cond test (done at.pels b) (step_by onward (read_step reference at b))) new rest
        → IsStep reference at b new rest
    by true same = absurd (cc (same))
    by false same =
        let step = step_onward (read_step reference at b) onward new rest same in
        step_is reference at b new rest (step.2 ∙ cc (step.3))

-- and what is done is at its end
pub done_is : (reference : List Colour) (at : Position) (b : List Bool) (pels : List Colour) (rest : List Bool)
    → coding_step reference at b ≡ done pels rest
    → (at.a0 ≡ Some (length reference)) × (pels ≡ at.pels) × (b ≡ rest)
done_is reference at b pels rest is = by (is_ended reference at.a0) refl is
  where
    no_end : (r : Read Position RowFault) → EndsAs (step_by onward r) pels rest → ⊥
    no_end (read new remaining) same = cc (same)
    no_end (failed fault) same = cc (same)

    by : (test : Bool) → is_ended reference at.a0 ≡ test
        → EndsAs (cond test (done at.pels b) (step_by onward (read_step reference at b))) pels rest
        → (at.a0 ≡ Some (length reference)) × (pels ≡ at.pels) × (b ≡ rest)
    by true there same = (ended_is reference at.a0 there, cc (same), cc (same))
    by false there same = absurd (no_end (read_step reference at b) same)

module _ (reference : List Colour) where
  pub shortens : (at new : Position) (b rest : List Bool) → coding_step reference at b ≡ onward new rest
      → length rest < length b
  shortens at new b rest is =
      let step = onward_is reference at b new rest is in
      omega (
        arith,
        step_shorter reference at step.mode step.after new rest step.step,
        takes_bits modes modes_has_short_codes b step.mode step.after step.taken,
      )

  -- a step is read, and then what follows it
  pub a_step : (old : Position) (b : List Bool) (new : Position) (rest : List Bool)
      → old.a0 ≢ Some (length reference) → IsStep reference old b new rest
      → read_steps reference old b ≡ read_steps reference new rest
  a_step old b new rest unfinished step =
      by_step DataEnds (coding_step reference) shortens old b (onward new rest)
      (rw (is_false _ (λ is. unfinished (ended_is reference old.a0 is)))
      (step_on onward (step_of reference old b new rest step) refl))

  pub ended : (at : Position) (b : List Bool) → at.a0 ≡ Some (length reference)
      → read_steps reference at b ≡ read at.pels b
  ended at b end =
      by_step DataEnds (coding_step reference) shortens at b (done at.pels b) (rw (is_ended_of reference at.a0 end)
      refl)

  pub stops : (at : Position) (b : List Bool) (fault : RowFault)
      → at.a0 ≢ Some (length reference) → IsStepFault reference at b fault → read_steps reference at b ≡ failed fault
  stops at b fault unfinished step =
      by_step DataEnds (coding_step reference) shortens at b (stopped fault)
      (rw (is_false _ (λ is. unfinished (ended_is reference at.a0 is)))
      (step_fails onward (step_fault_of reference at b fault step)))

pub at_width : (a0 : Option ℕ) (width : ℕ) → unwrap_or a0 0 ≡ width → 0 < width → a0 ≡ Some width
at_width None width is some = absurd (omega (arith, is, some))
at_width (Some a) width is some = ap (λ n. Some n) is
