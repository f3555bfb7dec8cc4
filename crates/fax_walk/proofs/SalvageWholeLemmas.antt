-- A page of which nothing is lost: its rows are those that a walk returns.
use Rattle.std.proofs.Common.{◌≡◌, ℕ, zero, suc, ◌+◌, ◌*◌, ◌≤◌, true, false, List, ◌++◌, length, min, None, refl}
use Rattle.std.proofs.Common.{arith}
use Rattle.std.proofs.lemmas.Bool.Decides.{nat_tests}
use Rattle.std.specs.Prelude.{nat_lt}
use Rattle.fax_bits.specs.Bits.{bits}
use Rattle.fax_bits.specs.laws.Codes.{AreBitsByIndex}
use Rattle.fax_files.specs.declared.PageForm.{PageForm}
use Rattle.fax_files.specs.Page.{strip_form}
use Rattle.fax_files.specs.laws.TiffFiles.{IsWholeForm}
use Rattle.fax_files.specs.views.Page.{IsPageForm}
use Rattle.fax_files.specs.views.Tiff.{TiffDirectory}
use Rattle.fax_walk.specs.Items.{IsRow, RowItem, first_at}
use Rattle.fax_walk.specs.laws.InOrder.{LeadTo}
use Rattle.fax_walk.specs.code.RowPlaces.{first_on}
use Rattle.fax_walk.specs.code.SalvageItems.{AreWholeBefore}
use Rattle.fax_walk.specs.code.Opening.{IsPageOf, page_with}
use Rattle.fax_walk.proofs.InOrderLemmas.{leads_both}
use Rattle.fax_walk.proofs.OpenPageLemmas.{whole_of}
use Rattle.fax_walk.proofs.RowLawLemmas.{LinesAreRead}
use Rattle.fax_walk.proofs.StripPlaceLemmas.{strip_count}
use Rattle.fax_walk.proofs.StripRowLemmas.{strip_rows}

module _ (by_place : AreBitsByIndex) (lines_read : LinesAreRead) (directory : TiffDirectory) (form : PageForm) (p : ℕ)
    (limits : IsPageForm form) (page : IsPageOf directory.file p (page_with directory form)) where
  abbrev n : ℕ
  n = form.rows_per_strip

  whole : IsWholeForm form
  whole = whole_of form limits

  -- the rows of the first strips
  abbrev LeadToStrip : ℕ → Type 0
  LeadToStrip s =
      (rows : List RowItem) × LeadTo (IsRow directory.file) (first_at p 0) rows (first_on form p (min (s * n)
      form.rows))

  none_led : LeadToStrip 0
  none_led = grind (arith, nat_tests)

  strips_led : (s : ℕ) → s ≤ form.strips → AreWholeBefore directory form form.strips → LeadToStrip s
  strips_led zero few strips = none_led
  strips_led (suc s) few strips =
      let before = strips_led s (omega (arith, few)) strips in
      let below = whole.needed s (omega (arith, few)) in
      let strip = strips s (omega (arith, few)) in
      let read = strip_rows by_place lines_read directory.file directory.endian directory.offset form p page whole s
      below
      strip.bytes strip.bytes_are strip.rows None strip.is in
      let count = strip_count (strip_form form s) (bits form.order strip.bytes) strip.rows None strip.is in
      let inside : nat_lt (min (s * n) form.rows) form.rows ≡ true = grind (arith, nat_tests, below) in
      let here : min (s * n) form.rows ≡ s * n = omega (arith, below) in
      let there : s * n + length strip.rows ≡ min (suc s * n) form.rows = omega (arith, count, below) in
      let start : first_on form p (min (s * n) form.rows) ≡ first_at p (s * n) = rw (inside, here) refl in (
        before.0 ++ read.items,
        leads_both (IsRow directory.file) (first_at p 0) (first_at p (s * n)) before.0 read.items
            (first_on form p (min (suc s * n) form.rows)) (rw start at before.1)
            (rw (read.there, there) at read.lead),
      )

  -- all rows of the page
  pub page_led : AreWholeBefore directory form form.strips
      → (rows : List RowItem) × LeadTo (IsRow directory.file) (first_at p 0) rows (first_at (p + 1) 0)
  page_led strips =
      let all = strips_led form.strips (omega arith) strips in
      let end : min (form.strips * n) form.rows ≡ form.rows = omega (arith, whole.enough) in
      let past : nat_lt (min (form.strips * n) form.rows) form.rows ≡ false = grind (arith, nat_tests, end) in
      let there : first_on form p (min (form.strips * n) form.rows) ≡ first_at (p + 1) 0 = rw past refl in
      (all.0, rw there at all.1)
