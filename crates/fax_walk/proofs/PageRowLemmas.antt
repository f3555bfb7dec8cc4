-- The rows of a page without a fault are rows that a walk returns, one after another.
use Rattle.std.proofs.Common.{◌≡◌, ℕ, ◌+◌, ◌*◌, min, inl, inr, Bool, true, List, [], ◌∷◌, ◌++◌, map, length, Some, None}
use Rattle.std.proofs.Common.{refl, arith}
use Rattle.std.proofs.lemmas.List.{map-append}
use Rattle.std.proofs.lemmas.Bool.Decides.{nat_tests}
use Rattle.std.specs.Prelude.{if◌then◌else◌, nat_lt}
use Rattle.fax_bits.specs.declared.Colour.{Colour}
use Rattle.fax_bits.specs.laws.Codes.{AreBitsByIndex}
use Rattle.fax_rows.specs.Rows.{other}
use Rattle.fax_files.specs.declared.PageForm.{PageForm}
use Rattle.fax_files.specs.declared.Endian.{Endian}
use Rattle.fax_files.specs.laws.TiffFiles.{AreStrips, joined, shown, IsWholeForm}
use Rattle.fax_files.specs.Page.{strip_form}
use Rattle.fax_walk.specs.Items.{RowPosition, first_at}
use Rattle.fax_walk.specs.code.Opening.{IsPageOf}
use Rattle.fax_walk.specs.code.RowPlaces.{first_on}
use Rattle.fax_walk.specs.laws.WrittenFiles.{numbered}
use Rattle.fax_walk.proofs.InOrderLemmas.{leads_both}
use Rattle.fax_walk.proofs.StripPlaceLemmas.{shown_length, strip_count}
use Rattle.fax_walk.proofs.RowLawLemmas.{LinesAreRead}
use Rattle.fax_walk.proofs.StripRowLemmas.{AreRead, strip_rows}

pub shown_both : (form : PageForm) (rows more : List (List Colour))
    → shown form (rows ++ more) ≡ shown form rows ++ shown form more
shown_both form rows more = by_test form.exchanged
  where
    by_test : (b : Bool) → (if b then map (map other) (rows ++ more) else rows ++ more)
        ≡ (if b then map (map other) rows else rows) ++ (if b then map (map other) more else more)
    by_test b = grind (arith, map-append)

numbered_both : (p r : ℕ) (rows more : List (List Colour))
    → numbered p r (rows ++ more) ≡ numbered p r rows ++ numbered p (r + length rows) more
numbered_both p r [] more = let none : r + 0 ≡ r = omega arith in rw none refl
numbered_both p r (row ∷ rows) more = grind (arith, numbered_both p (r + 1) rows more)

-- rows of a page that lead to a place, and those after them
read_both : (file : List ℕ) (p : ℕ) (at middle : RowPosition) (r : ℕ) (rows more : List (List Colour))
    (reached : RowPosition → Type 0)
    → AreRead file p at r rows (λ to. to ≡ middle) → AreRead file p middle (r + length rows) more reached
    → AreRead file p at r (rows ++ more) reached
read_both file p at middle r rows more reached first second = grind (arith, map-append, numbered_both, leads_both)

module _ (by_place : AreBitsByIndex) (lines_read : LinesAreRead) (file : List ℕ) (endian : Endian) (q : ℕ)
    (form : PageForm) (p : ℕ)
    (page : IsPageOf file p (record { endian = endian; offset = q; form = form }))
    (whole : IsWholeForm form) where
  -- the rows of the strips from strip s on lead to the page after it
  pub strips_from : (strips : List (List (List Colour))) (s r : ℕ) → r ≡ min (s * form.rows_per_strip) form.rows
      → AreStrips endian file q form s strips None
      → AreRead file p (first_on form p r) r (shown form (joined strips)) (λ to. to ≡ first_at (p + 1) 0)
  strips_from [] s r r_is (inl (s_is, none)) = grind arith
  strips_from [] s r r_is (inr (upcoming, outside, cause_is)) = absurd cc
  strips_from (rows ∷ strips) s r r_is (upcoming, bytes, stop, there, strip, inr (fault, some, none, cause_is)) = absurd
      cc
  strips_from (rows ∷ strips) s r r_is (upcoming, bytes, Some fault, there, strip, (inl (none, rest))) = absurd cc
  strips_from (rows ∷ strips) s r r_is (upcoming, bytes, None, there, strip, (inl (none, rest))) =
      let below = whole.needed s upcoming in
      let here : s * form.rows_per_strip ≡ r = omega (arith, r_is, below) in
      let inside : nat_lt r form.rows ≡ true = grind (arith, nat_tests, below, here) in
      let count = strip_count (strip_form form s) _ rows None strip in
      let length_is = shown_length form rows in
      let first =
      rw here at (strip_rows by_place lines_read file endian q form p page whole s below bytes there rows None strip) in
      let later = strips_from strips (s + 1) (r + length rows) (omega (arith, count, here)) rest in
      rw (inside, shown_both form rows (joined strips))
      (read_both file p (first_at p r) (first_on form p (r + length rows)) r (shown form rows)
      (shown form (joined strips))
      (λ to. to ≡ first_at (p + 1) 0) first (rw length_is later))
