-- How far a row is written after a step: the indexes of a1 and b1 after each mode.
use Rattle.std.proofs.lemmas.Grind.{common_steps}
use Rattle.std.proofs.Common.{◌≡◌, ℕ, ◌+◌, ◌<◌, ◌≤◌, ◌++◌, length, true, sym, ◌∙◌, subst, arith}
use Rattle.std.specs.Prelude.{Option, Some, unwrap_or, pos}
use Rattle.std.proofs.lemmas.Int.{ints}
use Rattle.fax_bits.specs.declared.mode_codes.ModeCode.{ModeCode}
use Rattle.fax_bits.specs.declared.mode_codes.ModeCode.TheVariants.{Horizontal, Vertical}
use Rattle.fax_bits.specs.Written.{mode_bits}
use Rattle.fax_rows.specs.code.Choice.{colour_of, canonical_mode}
use Rattle.fax_bits.specs.declared.Colour.{Colour}
use Rattle.fax_bits.specs.declared.Colour.TheVariants.{Black}
use Rattle.fax_rows.specs.declared.put_rows.CodingElements.{CodingElements}
use Rattle.fax_rows.specs.declared.change_list.ChangingElements.{ChangingElements}
use Rattle.fax_rows.specs.declared.change_list.RowPair.{RowPair}
use Rattle.fax_rows.specs.Rows.{other, is_right_of}
use Rattle.fax_rows.specs.code.CodingElements.{AreCodingElements, canonical_mode_from, step_bits_from, a0_after_step}
use Rattle.fax_rows.specs.code.CodingElements.{run_pair}
use Rattle.fax_rows.specs.code.ChangingElements.{element_pels, IsBeforeB1, IsB1At}
use Rattle.fax_rows.specs.code.ChangeLists.{alternate, IsFrom}
use Rattle.fax_rows.proofs.ChangeLemmas.{first_of}
use Rattle.fax_rows.proofs.ChoiceLemmas.{a1_right, passed_right}
use Rattle.fax_rows.proofs.PlacedB1Lemmas.{inside_end, b1_ahead, b2_ahead, b1_next, b1_passed, same_start}
use Rattle.fax_rows.proofs.TurnLemmas.{alternate-suc, pel_after}
use Rattle.fax_rows.proofs.WrittenPlaceLemmas.{known_bounds, same_widths, written_width}

module _ (row : ChangingElements) where
  -- the colour of a0, where it is inside the row
  pub colour_here : (a0 : Option ℕ) (k : ℕ) → IsFrom row.changes.now row.end a0 k → unwrap_or a0 0 < row.width
      → alternate Black k ≡ colour_of (element_pels row) a0
  colour_here a0 k at inside = grind (arith, pel_after)

module _ {rows : RowPair} {ahead : CodingElements} (is : AreCodingElements rows ahead) where
  pub from_a1 : ahead.a1 < rows.row.width → IsFrom rows.row.changes.now rows.row.end (Some ahead.a1) (ahead.row + 1)
  from_a1 inside = grind (arith, common_steps, inside_end)

  pub from_a2 : ahead.a2 < rows.row.width → IsFrom rows.row.changes.now rows.row.end (Some ahead.a2) (ahead.row + 2)
  from_a2 inside = grind (arith, common_steps, inside_end)

  -- b2 is not left of a0
  b2_from_a0 : unwrap_or ahead.a0 0 ≤ ahead.b2
  b2_from_a0 = grind (arith, b1_ahead, b2_ahead)

  pub from_b2 : ahead.b2 < ahead.a1 → IsFrom rows.row.changes.now rows.row.end (Some ahead.b2) ahead.row
  from_b2 remaining = grind (arith, common_steps, b2_from_a0)

  -- the colour after one change, and after two
  turned_colour : other ahead.colour ≡ alternate Black (ahead.row + 1)
  turned_colour = grind (arith, alternate-suc)

  same_colour : ahead.colour ≡ alternate Black (ahead.row + 2)
  same_colour = grind (arith, common_steps)

  pub b1_after_pass : ahead.b2 < rows.row.width
      → IsB1At rows.reference (Some ahead.b2) (alternate Black ahead.row) (ahead.reference + 2)
  b1_after_pass inside =
      subst (λ colour. IsB1At rows.reference (Some ahead.b2) colour (ahead.reference + 2)) is.after
      (subst (λ a. IsB1At rows.reference (Some a) ahead.colour (ahead.reference + 2)) (sym is.b2_at)
      (b1_passed rows.reference is.reference (omega (arith, is.b2_at))))

  pub b1_after_b1 : ahead.a1 ≡ ahead.b1 → ahead.a1 < rows.row.width
      → IsB1At rows.reference (Some ahead.a1) (alternate Black (ahead.row + 1)) (ahead.reference + 1)
  b1_after_b1 same inside =
      subst (λ colour. IsB1At rows.reference (Some ahead.a1) colour (ahead.reference + 1)) turned_colour
      (subst (λ a. IsB1At rows.reference (Some a) (other ahead.colour) (ahead.reference + 1)) (sym (same ∙ is.b1_at))
      (b1_next rows.reference is.reference (omega (arith, same, is.b1_at))))

  pub b1_after_a1 : (b : ℕ) → ((a0 : Option ℕ) (colour : Colour) → IsB1At rows.reference a0 colour ahead.reference
      → is_right_of a0 ahead.a1 ≡ true → IsB1At rows.reference (Some ahead.a1) (other colour) b)
      → IsB1At rows.reference (Some ahead.a1) (alternate Black (ahead.row + 1)) b
  b1_after_a1 b found =
      let inside : first_of ahead.a0 < length (element_pels rows.row) = omega (arith, written_width rows) in
      let passes = a1_right (element_pels rows.reference) (element_pels rows.row) (same_widths rows) ahead.a0 inside in
      let right = passed_right ahead.a0 ahead.a1 (omega (arith, passes, is.a1)) in
      subst (λ colour. IsB1At rows.reference (Some ahead.a1) colour b) turned_colour
      (found ahead.a0 ahead.colour is.reference right)

  pub b1_after_a2 : (b : ℕ) → ((colour : Colour) → IsBeforeB1 rows.reference ahead.a2 colour ahead.reference
      → IsB1At rows.reference (Some ahead.a2) colour b)
      → IsB1At rows.reference (Some ahead.a2) (alternate Black (ahead.row + 2)) b
  b1_after_a2 b found =
      let known = known_bounds is in
      subst (λ colour. IsB1At rows.reference (Some ahead.a2) colour b) same_colour
      (found ahead.colour
      (same_start rows.reference ahead.a0 ahead.colour ahead.reference ahead.a2
      is.reference
      (omega (arith, known.a0, known.a1_a2))))

  pub horizontal_bits : (mode : ModeCode) → mode ≡ canonical_mode
      (record { a1 = ahead.a1; a2 = 0; b1 = ahead.b1; b2 = ahead.b2 })
      → mode ≡ Horizontal
      → step_bits_from (element_pels rows.reference) (element_pels rows.row) ahead.a0 ≡ mode_bits Horizontal
      ++ run_pair ahead
  horizontal_bits mode chosen is_horizontal = grind (arith, common_steps)

  -- a1 under b1
  under_mode : ahead.a1 ≡ ahead.b1 → canonical_mode_from (element_pels rows.reference) (element_pels rows.row) ahead.a0
      ≡ Vertical (pos 0)
  under_mode same = grind (arith, common_steps, b2_ahead, ints)

  pub under_bits : ahead.a1 ≡ ahead.b1 → step_bits_from (element_pels rows.reference) (element_pels rows.row) ahead.a0
      ≡ mode_bits
      (Vertical (pos 0))
  under_bits same = grind (arith, common_steps, under_mode)

  pub under_place : ahead.a1 ≡ ahead.b1 → ahead.a1 ≡ a0_after_step (element_pels rows.reference) (element_pels rows.row)
      ahead.a0
  under_place same = grind (arith, under_mode)
