-- Texts of numbers that are remembered.
use Rattle.std.proofs.lemmas.Grind.{common_steps}
use Rattle.std.proofs.Common.{◌≡◌, ℕ, zero, suc, ◌+◌, ◌*◌, ◌/◌, ◌%◌, ◌≤◌, ◌⊎◌, List, [], ◌∷◌}
use Rattle.std.proofs.Common.{◌++◌, length, set, take}
use Rattle.std.proofs.Common.{replicate, inl, inr, refl}
use Rattle.std.proofs.Common.{Some, arith}
use Rattle.std.specs.Prelude.{slice_get, slice_set}
use Rattle.std.proofs.lemmas.List.{length-take-le}
use Rattle.std.proofs.Math.Seq.{take-append-add}
use borrow.Rule.Slice.PartMut.{put_mid}
use Rattle.fax_tool.specs.Text.{and_number}
use Rattle.fax_tool.specs.code.Remembered.{AreNumbers, ArePairs, IsMadeAt, IsText}
use Rattle.fax_tool.specs.declared.text.number_cache.CachedText.{CachedText}

-- what stands at an index of a list in which something was put: that, or what stood there
put_at : {A : Type 0} (all : List A) (index i : ℕ) (new found : A) → slice_get (set all index new) i ≡ Some found
    → ((i ≡ index) × (found ≡ new)) ⊎ (slice_get all i ≡ Some found)
put_at [] index i new found is = inr is
put_at (first ∷ all) zero zero new found is = inl (refl, cc)
put_at (first ∷ all) zero (suc i) new found is = inr is
put_at (first ∷ all) (suc index) zero new found is = inr is
put_at (first ∷ all) (suc index) (suc i) new found is = grind (arith, put_at all index i new found is)

-- a text is made of a number
pub numbers_put : (texts : List CachedText) (number : ℕ) (new : CachedText) → AreNumbers texts
    → IsText (and_number number) new → AreNumbers (slice_set texts number new)
numbers_put texts number new are is = λ n kept made.
    elim (put_at texts number n new kept made.0) [
      | inl (same, kept_is) ↦ rw (same, kept_is) is
      | inr there ↦ are n kept (there, made.1)
    ]

-- the text at an index is that of the index's two numbers
pub pair_made : (texts : List CachedText) (index : ℕ) (kept : CachedText) → ArePairs texts → IsMadeAt texts index kept
    → IsText (and_number (index / 64) ++ and_number (index % 64)) kept
pair_made texts index kept are made =
    let same : 64 * (index / 64) + index % 64 ≡ index = omega arith in
    are (index / 64) (index % 64) kept (omega arith) (rw same made)

-- a text is made of an index's two numbers
pub pairs_put : (texts : List CachedText) (index : ℕ) (new : CachedText) → ArePairs texts
    → IsText (and_number (index / 64) ++ and_number (index % 64)) new → ArePairs (slice_set texts index new)
pairs_put texts index new are is = λ f s kept low made.
    elim (put_at texts index (64 * f + s) new kept made.0) [
      | inl (same, kept_is) ↦
          let firsts : f ≡ index / 64 = omega (arith, same, low) in
          let seconds : s ≡ index % 64 = omega (arith, same, low) in
          rw (firsts, seconds, kept_is) is
      | inr there ↦ are f s kept low (there, made.1)
    ]

-- none is made of texts that are not
pub none_made : (count index : ℕ) (empty kept : CachedText) → empty.len ≡ 0
    → IsMadeAt (replicate count empty) index kept
    → ⊥
none_made zero index empty kept none made = cc
none_made (suc count) zero empty kept none made = grind arith
none_made (suc count) (suc index) empty kept none made = none_made count index empty kept none made

-- eight bytes are written, and the text is the first of them
pub short_put : (bytes more : List ℕ) (at k len : ℕ) → length more ≡ 8 → len ≤ 8 → at + 8 ≤ length bytes
    → take (at + len) (put_mid at k bytes more) ≡ take at bytes ++ take len more
short_put bytes more at k len eight few room = grind (arith, common_steps, length-take-le, take-append-add)
