-- A row packed by its places of change.
use Rattle.fax_rows.specs.code.PackedWord.{IsPackedByte}
use Rattle.std.proofs.lemmas.Grind.{common_steps}
use Rattle.std.proofs.Common.{◌≡◌, ℕ, ◌+◌, ◌-◌, ◌<◌, ◌≤◌, List, map, length, take, get_or}
use Rattle.std.proofs.Common.{false, nat_eq, ap, sym, ◌∙◌, subst, arith, inl, inr}
use borrow.Rule.Slice.PartMut.{put_mid}
use Rattle.std.specs.Int.{bit_at}
use Rattle.std.proofs.lemmas.Bool.{cases_lt}
use Rattle.std.proofs.lemmas.List.{length-map, get_or-map, get_or_past}
use Rattle.std.proofs.lemmas.Nat.Bits.{bit_at-zero, bit_at_ones}
use Rattle.fax_bits.specs.declared.Colour.{Colour}
use Rattle.fax_bits.specs.declared.Colour.TheVariants.{White, Black}
use Rattle.fax_rows.specs.Coded.{is_black}
use Rattle.fax_rows.specs.code.FirstOther.{plain_byte}
use Rattle.fax_rows.specs.code.ChangeLists.{row_of, alternate, AreChanges, HasPassed, AreChangesUpTo}
use Rattle.fax_rows.proofs.PlacedRowLemmas.{end_within}
use Rattle.fax_rows.proofs.TurnLemmas.{length-pels_of_changes, pel_after}

plain_bit : (colour : Colour) (i : ℕ) → i < 8 → nat_eq (bit_at (plain_byte colour) (7 - i)) 1 ≡ is_black colour
plain_bit White i h = ap (λ b. nat_eq b 1) (bit_at-zero (7 - i))
plain_bit Black i h = ap (λ b. nat_eq b 1) (bit_at_ones 8 (7 - i) (omega arith))

module _ {changes : List ℕ} {end width : ℕ} (all : AreChanges changes end width) where
  -- no pel stands after the last one
  pub none_after : (i : ℕ) → width ≤ i → get_or (map is_black (row_of changes end width)) i false ≡ false
  none_after i over = grind (arith, get_or_past, length-map, length-pels_of_changes)

  pub bit_after : (i k : ℕ) → i < width → AreChangesUpTo changes end i k
      → get_or (map is_black (row_of changes end width)) i false ≡ is_black (alternate Black k)
  bit_after i k within at =
      get_or-map is_black (row_of changes end width) i White false
      (omega (arith, length-pels_of_changes width (take end changes)))
      ∙ ap is_black (pel_after all.ascending width i k within at)

  pub passed-lt : (i k : ℕ) → HasPassed changes end i k → k < length changes
  passed-lt i k passed = omega (arith, passed.within, all.room, end_within all)

  -- a place further right is passed too where none stands between
  pub still_passed : (at next k : ℕ) → HasPassed changes end at k → at ≤ next → next ≤ get_or changes k 0
      → HasPassed changes end next k
  still_passed at next k passed order before = grind (arith, common_steps)

  pub place_at_most : (at k : ℕ) → HasPassed changes end at k → get_or changes k 0 ≤ width
  place_at_most at k passed = grind arith

  -- a byte in which no colour changes
  pub whole_byte : (at from k : ℕ) → HasPassed changes end at k → at ≤ from → from + 8 ≤ get_or changes k 0
      → IsPackedByte (row_of changes end width) from (plain_byte (alternate Black k))
  whole_byte at from k passed order whole i h = grind (arith, plain_bit, bit_after)

-- a list of which the first elements have what they are to have, after a write to the part that
-- follows
pub part_written : (P : ℕ → ℕ → Type 0) (out part : List ℕ) (a k : ℕ) → a ≤ length out
    → ((i : ℕ) → i < a → P i (get_or out i 0))
    → ((i : ℕ) → i < length part → P (a + i) (get_or part i 0)) → (i : ℕ) → i < a + length part
    → P i (get_or (put_mid a k out part) i 0)
part_written P out part a k within before written i h =
    elim (cases_lt i a) [
      | inl less ↦
          let kept : get_or (put_mid a k out part) i 0 ≡ get_or out i 0 = grind (arith, common_steps) in
          subst (P i) (sym kept) (before i less)
      | inr more ↦
          let column : a + (i - a) ≡ i = omega arith in
          let new : get_or (put_mid a k out part) i 0 ≡ get_or part (i - a) 0 = grind (arith, common_steps) in
          subst (P i) (sym new) (subst (λ n. P n (get_or part (i - a) 0)) column (written (i - a) (omega arith)))
    ]
