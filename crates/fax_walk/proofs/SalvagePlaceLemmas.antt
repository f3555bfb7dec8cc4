-- A page whose rows are gone through from a place on.
use Rattle.std.proofs.Common.{◌≡◌, ℕ, ◌+◌, ◌-◌, ◌*◌, ◌/◌, ◌<◌, ◌≤◌, List, [], ◌∷◌, ◌++◌, length, drop, map, replicate}
use Rattle.std.proofs.Common.{Bool, false, Option, Some, None, Ok, Err, refl, sym, ap, ◌∙◌, arith, subst}
use Rattle.std.specs.Prelude.{◌≢◌, flat_map}
use Rattle.fax_walk.specs.declared.salvage_rows.StripPositionRef.{StripPositionRef}
use Rattle.std.proofs.lemmas.List.{length-drop, length-replicate}
use Rattle.fax_bits.specs.Bits.{bits}
use Rattle.fax_bits.specs.declared.FillOrder.{FillOrder}
use Rattle.fax_rows.specs.Rows.{Colour, White}
use Rattle.fax_page.specs.Lines.{white_row}
use Rattle.fax_page.specs.Salvage.{SalvagedRow}
use Rattle.fax_page.specs.laws.Salvage.{SalvagesStripsOneWay}
use Rattle.fax_page.specs.declared.PlaceFault.{PlaceFault}
use Rattle.fax_page.specs.declared.PlaceFault.TheVariants.{Memory, Outside}
use Rattle.fax_page.specs.declared.ReferenceRow.{ReferenceRow}
use Rattle.fax_page.specs.declared.StripForm.{StripForm}
use Rattle.fax_page.specs.views.Reader.{IsBefore}
use Rattle.fax_page.specs.views.Salvage.{IsSalvageInside, SalvageState, salvage_from}
use Rattle.fax_files.specs.declared.PageForm.{PageForm}
use Rattle.fax_files.specs.Page.{strip_form}
use Rattle.fax_files.specs.views.Page.{IsPageForm}
use Rattle.fax_files.specs.views.Tiff.{PageStrips, TiffDirectory, form_of}
use Rattle.fax_walk.specs.Pages.{FilePage}
use Rattle.fax_walk.specs.Salvaged.{PageRow, AreRowsFrom, AreStripsLeft, IsRowOfStrip, on_page}
use Rattle.fax_walk.specs.code.Opening.{page_with}
use Rattle.fax_walk.specs.code.SalvageItems.{AreBytesLeft, StartsAt, IsInPage, IsNotStartedAt, IsPlaceOf}
use Rattle.fax_walk.specs.code.SalvageItems.{GoesOverRows, RowsState, upcoming_row, seen_from}
use Rattle.fax_walk.specs.code.ShownRows.{IsShownPart, ShownState}
use Rattle.fax_walk.specs.declared.salvage_rows.SalvagedPart.{SalvagedPart}
use Rattle.fax_walk.specs.declared.salvage_rows.SalvagedPart.TheVariants.{Found, Lost}
use Rattle.fax_walk.specs.Items.{exchanged}
use Rattle.fax_walk.specs.views.RowsFrom.{IsNextFrom, PassesOver}
use Rattle.fax_walk.proofs.OpenPageLemmas.{whole_of}
use Rattle.fax_walk.specs.laws.SalvagedRows.{AreLeftFromPlaces}
use Rattle.fax_walk.specs.Salvaged.{strip_left}
use Rattle.fax_walk.proofs.SalvageLawLemmas.{one_strips}
use Rattle.fax_walk.proofs.SalvageStepLemmas.{none_after}
use Rattle.fax_walk.proofs.StripPlaceLemmas.{in_strip}

abbrev state_of : TiffDirectory → PageForm → ℕ → Bool → SalvageState → RowsState
state_of directory form s whole reader = record {
  directory = directory;
  form = form;
  strip = s;
  whole = whole;
  clean = false;
  reader = reader;
}

-- a row of a strip is a row of one strip alone
one_strip : (form : PageForm) (r s i : ℕ) → IsRowOfStrip form r s i → r / form.rows_per_strip ≡ s
one_strip form r s i there = grind (arith, in_strip)

-- the strip that holds a row
pub holds_row : (form : PageForm) (r s : ℕ) → IsPageForm form → r < form.rows → s ≡ r / form.rows_per_strip
    → IsRowOfStrip form r s (r - s * form.rows_per_strip)
holds_row form r s limits upcoming s_is = grind (arith, whole_of)

module _ (strips : PageStrips) (form : PageForm) (r s i place : ℕ) (bytes : List ℕ) (whole : Bool)
    (before : ReferenceRow)
    (remaining : AreBytesLeft strips.directory s bytes whole) where
  abbrev here : FilePage
  here = page_with strips.directory form

  module _ (reader : SalvageState) (there : IsRowOfStrip form r s i) (within : place ≤ 8 * length bytes)
      (reader_is : reader ≡ salvage_from (strip_form form s) i (drop place (bits form.order bytes)) reader.reference)
    where
      -- before a row inside the strip
      pub started_at_in_page : form_of strips.directory ≡ Ok form → IsPageForm form → strips.count ≡ form.strips
          → length (bits form.order bytes) ≡ 8 * length bytes → IsInPage strips form s whole false reader
      started_at_in_page form_is limits counted len = record {
        form_is = form_is;
        limits = limits;
        counted = counted;
        inside = there.strip;
        reader_form = ap (λ (s : SalvageState). s.form) reader_is;
        within =
            let row_is : reader.row ≡ i = ap (λ (s : SalvageState). s.row) reader_is in
            let rows_are : reader.form.rows ≡ (strip_form form s).rows =
            ap (λ (s : SalvageState). s.form.rows) reader_is in
            omega (arith, row_is, rows_are, there.row);
        stands = record {
          bytes = bytes;
          remaining = remaining;
          upcoming = λ _. (place, omega (arith, within, len), sym (ap (λ (s : SalvageState). s.upcoming) reader_is));
        };
        whole_before = λ is. absurd cc;
        clean_now = λ is. absurd cc;
      }

      -- what is left from there on
      pub started_at : IsBefore form.width before reader.reference
          → StartsAt strips.directory form r place before (state_of strips.directory form s whole reader)
      started_at reference = (
        refl,
        refl,
        record {
          file_is = refl;
          here_is = refl;
          row_is =
              let row_is : reader.row ≡ i = ap (λ (s : SalvageState). s.row) reader_is in
              omega (arith, row_is, there.place);
          s = s;
          i = i;
          at = record { bits = place; reference = reader.reference };
          there = there;
          inner = record { bits_are = refl; within = rw (remaining form) within; reference = reference };
          rows_are = λ rows is. rw (remaining form) (is.0, is.1, rw reader_is at is.2, is.3, is.4);
        },
      )

  -- there is no such place
  pub not_started_at : (fault : PlaceFault) → s ≡ r / form.rows_per_strip → i ≡ r - s * form.rows_per_strip
      → IsSalvageInside (strip_form form s) bytes i place before (Err fault)
      → IsNotStartedAt strips.directory form r place before fault
  not_started_at Outside s_is i_is none = λ s' i' there at inner.
      let same : s' ≡ s = sym (one_strip form r s' i' there) ∙ sym s_is in
      let its = rw same at inner in
      none (rw (remaining form) at its.within) at.reference its.reference
  not_started_at Memory s_is i_is (fits, row, is) = λ s' i' there.
      let same : s' ≡ s = sym (one_strip form r s' i' there) ∙ sym s_is in (
        record { bits = place; reference = row },
        record { bits_are = refl; within = rw (same, remaining form) fits; reference = is },
      )

-- the bytes of a strip are the same
one_bytes : (directory : TiffDirectory) (form : PageForm) (s : ℕ) (bytes others : List ℕ) (whole another : Bool)
    → AreBytesLeft directory s bytes whole → AreBytesLeft directory s others another
    → (bytes ≡ others) × (whole ≡ another)
one_bytes directory form s bytes others whole another remaining also =
    let same = sym (remaining form) ∙ also form in (
      ap (λ (pair : List ℕ × Bool). pair.0) same,
      ap (λ (pair : List ℕ × Bool). pair.1) same,
    )

module _ (strips : PageStrips) (form : PageForm) (s : ℕ) (whole clean : Bool) (reader : SalvageState)
    (is : IsInPage strips form s whole clean reader) where
  abbrev at_place : RowsState
  at_place = record {
    directory = strips.directory;
    form = form;
    strip = s;
    whole = whole;
    clean = clean;
    reader = reader;
  }

  abbrev its_page : FilePage
  its_page = page_with strips.directory form

  rows_of_strip : reader.form.rows ≡ (strip_form form s).rows
  rows_of_strip = ap (λ (f : StripForm). f.rows) is.reader_form

  -- the strip is gone through, and the next one begins with the row
  pub place_next : reader.row ≡ (strip_form form s).rows → IsPlaceOf at_place None
  place_next gone before upcoming =
      let its = whole_of form is.limits in
      let m = form.rows_per_strip in
      let full : reader.row ≡ m = omega (arith, gone, upcoming) in
      let there : s * m + m ≡ (s + 1) * m = omega arith in
      let later : (s + 1) * m < form.rows = omega (arith, upcoming, full, there) in
      let more : s + 1 < form.strips = grind (arith, its.enough, later) in (
        s + 1,
        0,
        record { strip = more; row = omega (arith, later, its.some_in_strip); place = omega (arith, full, there) },
        omega arith,
        length-replicate form.width White,
        (λ _. refl),
        λ rows remaining. next_rows rows remaining.0 remaining.1 more
            (none_after reader remaining.0 (gone ∙ sym rows_of_strip) remaining.2) remaining.3 remaining.4,
      )
    where
      next_rows : (rows : List PageRow) (own : List SalvagedRow) (others : List (List PageRow)) → s + 1 < form.strips
          → own ≡ [] → AreStripsLeft strips.directory.file its_page (s + 1) others
          → rows ≡ map (on_page form whole) own ++ flat_map (λ rows. rows) others
          → AreRowsFrom strips.directory.file its_page (s + 1) 0 (record { bits = 0; reference = white_row form.width })
          rows
      next_rows rows own [] more none are rows_are = absurd (omega (arith, more, are))
      next_rows rows own (first ∷ others) more none (some, (its, salvaged, first_is), are) rows_are = grind arith

  module _ (bytes : List ℕ) (another : Bool) (not_gone : reader.row ≢ (strip_form form s).rows)
      (remaining : AreBytesLeft strips.directory s bytes another)
      (len : (order : FillOrder) (bytes : List ℕ) → length (bits order bytes) ≡ 8 * length bytes) where
    same : bytes ≡ is.stands.bytes
    same = (one_bytes strips.directory form s bytes is.stands.bytes another whole remaining is.stands.remaining).0

    inside : reader.row < reader.form.rows
    inside = omega (arith, is.within, not_gone, rows_of_strip)

    abbrev n : ℕ
    n = (is.stands.upcoming inside).0

    abbrev Counted : Type 0
    Counted = (n ≤ 8 * length bytes) × (length reader.upcoming ≡ 8 * length bytes - n)

    counted : Counted
    counted = grind (arith, inside, same, length-drop)

    -- so many bits are left
    pub upcoming_fits : length reader.upcoming ≤ 8 * length bytes
    upcoming_fits = omega (arith, counted)

    -- the row stands inside the strip
    pub place_here : (lent : StripPositionRef) → lent.bits ≡ 8 * length bytes - length reader.upcoming
        → lent.reference.now ≡ reader.reference → length lent.reference.now ≡ reader.form.width
        → IsPlaceOf at_place (Some lent)
    place_here lent bits_are reference_is width before upcoming = grind (arith, inside, counted, same, rows_of_strip)

-- a row that a reader begins before has its place in its strip
pub started_fits : (directory : TiffDirectory) (form : PageForm) (r bits : ℕ) (before : ReferenceRow) (state :
    RowsState)
    → StartsAt directory form r bits before state → IsNotStartedAt directory form r bits before Memory
started_fits directory form r bits before state (same, also, origin) s i there =
    let one : s ≡ origin.s = sym (one_strip form r s i there) ∙ one_strip form r origin.s origin.i origin.there in
    (origin.at, rw one origin.inner)

-- rows of a page are passed
passes_over : (old new : ShownState) (over : List PageRow) → GoesOverRows old.rows over new.rows
    → upcoming_row new.rows ≡ upcoming_row old.rows + length over → upcoming_row new.rows ≤ new.rows.form.rows
    → PassesOver (seen_from old.rows old.shown) over (seen_from new.rows new.shown)
passes_over old new over goes next within = record {
  same_file = ap (λ (d : TiffDirectory). d.file) goes.stays.0;
  same_here = rw (goes.stays.0, goes.stays.1) refl;
  next = next;
  within = let same : new.rows.form.rows ≡ old.rows.form.rows = ap (λ (f : PageForm). f.rows) goes.stays.1 in
      omega (arith, within, same);
  followed = goes.followed;
}

-- what became of the next row
pub next_from : (old new : ShownState) (part : Option SalvagedPart) → IsShownPart old part new
    → IsNextFrom (seen_from old.rows old.shown) part (seen_from new.rows new.shown)
next_from old new None ((goes, same, all, are, none, _), shown) =
    (passes_over old new [] goes (omega (arith, same)) (omega (arith, all)), all, are, none)
next_from old new (Some Found) ((goes, next, within, before, ends), shown) =
    let here : PageRow = Ok (exchanged new.rows.form new.rows.reader.reference) in
    let same : here ≡ Ok new.shown = ap (λ (row : List Colour). Ok row) (sym shown) in (
      subst
          (λ (row : PageRow). PassesOver (seen_from old.rows old.shown) (row ∷ []) (seen_from new.rows new.shown))
          same
          (passes_over old new (here ∷ []) goes next within),
      before,
      ends,
    )
next_from old new (Some (Lost rows cause)) ((goes, some, next, within), shown) = (
  some,
  passes_over old new (replicate rows (Err cause)) goes
      (next ∙ ap (λ n. upcoming_row old.rows + n) (sym (length-replicate rows (Err cause)))) within,
)

-- what is left from a place on is one list, and from the first one on it is what is left of the
-- page
pub left_from_places : SalvagesStripsOneWay → AreLeftFromPlaces
left_from_places salvages = record {
  one = λ file here s i at rows others within (own, strips, is, are, rows_are) (own', strips', is', are', others_are).
      let remaining = strip_left here file s in
      let one =
      salvages (strip_form here.form s) i None at.reference (drop at.bits (bits here.form.order remaining.0)) within in
      let same : own ≡ own' = one.one own is ∙ sym (one.one own' is') in
      let later : strips ≡ strips' = one_strips salvages file here (s + 1) strips strips' are are' in
      rows_are ∙ rw (same, later) (sym others_are);
  all = λ file here rows some (own, strips, is, are, rows_are).
      let remaining = strip_left here file 0 in
      (map (on_page here.form remaining.1) own ∷ strips, (some, (own, is, refl), are), rows_are);
}
