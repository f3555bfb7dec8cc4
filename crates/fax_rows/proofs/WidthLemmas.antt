-- A row that is read has its width.
use Rattle.std.proofs.Common.{◌≡◌, ℕ, ◌-◌, ◌≤◌, List, [], ◌++◌, length, replicate, Bool, Option, Some, refl}
use Rattle.std.proofs.Common.{ap, sym, ◌∙◌}
use Rattle.std.proofs.Common.{arith, pos, negsuc, ◌≤ℤ◌, ◌<ℤ◌, None, length-append}
use Rattle.std.specs.Prelude.{unwrap_or}
use Rattle.std.proofs.lemmas.Int.{ints}
use Rattle.std.proofs.lemmas.List.{length-replicate}
use Rattle.fax_bits.specs.declared.Colour.{Colour}
use Rattle.fax_bits.specs.declared.Colour.TheVariants.{White}
use Rattle.fax_bits.specs.declared.mode_codes.ModeCode.{ModeCode}
use Rattle.fax_bits.specs.declared.mode_codes.ModeCode.TheVariants.{Pass, Horizontal, Vertical, Extension}
use Rattle.fax_rows.specs.Rows.{b1, b2, Position, beginning, first_pel}
use Rattle.fax_rows.specs.code.CodingSteps.{IsStepBy}
use Rattle.fax_rows.proofs.RowRuleLemmas.{runs_rule, steps_rule}
use Rattle.fax_rows.specs.laws.Rows.{RowsHaveTheirWidth}
use Rattle.fax_rows.proofs.ChangeLemmas.{next_change_is, next_is_ahead, next_of_within, next_of_right}
use Rattle.fax_rows.proofs.PlacedStepLemmas.{right_after_first}

-- a row has its pels up to a0
abbrev IsPainted : List Colour → Position → Type 0
IsPainted reference at = (length at.pels ≡ first_pel at) × (first_pel at ≤ length reference)

b1_ahead : (reference : List Colour) (at : Position) → first_pel at ≤ length reference
    → first_pel at ≤ b1 reference at.a0 at.colour
b1_ahead reference at within = grind (arith, next_of_right, right_after_first, next_of_within)

left_of : (a0 : Option ℕ) (a1 : ℕ) → (elim a0 [ None ↦ negsuc 0 | Some a ↦ pos a ]) <ℤ pos a1 → unwrap_or a0 0 ≤ a1
left_of None a1 h = omega arith
left_of (Some a) a1 h = omega (arith, ints)

painted_to : (at : Position) (to : ℕ) → length at.pels ≡ first_pel at → first_pel at ≤ to
    → length (at.pels ++ replicate (to - first_pel at) at.colour) ≡ to
painted_to at to painted right = omega (arith, length-append {A = Colour}, length-replicate {A = Colour})

step_paints : (mode : ModeCode) (reference : List Colour) (old : Position) (b : List Bool) (new : Position)
    (rest : List Bool)
    → IsPainted reference old → IsStepBy mode reference old b new rest → IsPainted reference new
step_paints Pass reference old b new rest painted step =
    let first = b1_ahead reference old painted.1 in
    let second = next_is_ahead (Some (b1 reference old.a0 old.colour))
    (next_change_is reference (Some (b1 reference old.a0 old.colour)))
    (next_of_within reference old.a0 old.colour) in
    let within = (next_change_is reference (Some (b1 reference old.a0 old.colour))).within in
    rw step.0 (painted_to old (b2 reference old.a0 old.colour) painted.0 (omega arith), within)
step_paints (Vertical d) reference old b new rest painted step =
    let v = step.0 in
    let right = left_of old.a0 v.a1 (rw (sym v.a1_is) at v.in_row.right_of_a0) in
    let inside : pos v.a1 ≤ℤ pos (length reference) = rw (sym v.a1_is) at v.in_row.within in
    rw v.new_is (painted_to old v.a1 painted.0 right, omega (arith, ints))
step_paints Horizontal reference old b new rest painted step =
    rw step.new_is (omega (arith, length-append {A = Colour}, length-replicate {A = Colour}, painted.0), step.within)
step_paints Extension reference old b new rest painted step = absurd step

pub rows_have_their_width : RowsHaveTheirWidth
rows_have_their_width = record {
  one_dimensional = λ width b row rest is.
      runs_rule width (λ at b pels rest. length pels ≡ width) (λ at b end. end)
      (λ at to b remaining pels rest unfinished run more. more) (record { pels = []; colour = White }) b row rest is;
  two_dimensional = λ reference b row rest is.
      let whole = steps_rule reference (λ at b. IsPainted reference at)
      (λ at b new rest step painted. step_paints step.mode reference at step.after new rest painted step.step)
      beginning b row rest is (refl, omega arith) in
      ap length whole.3 ∙ whole.1.0 ∙ ap (λ (o : Option ℕ). unwrap_or o 0) whole.2;
}
