-- The rows of a page that are left, strip after strip.
use Rattle.std.proofs.Common.{◌≡◌, ℕ, ◌+◌, ◌*◌, ◌<◌, ◌≤◌, List, [], ◌∷◌, ◌++◌, map, replicate, Bool, true}
use Rattle.std.proofs.Common.{false, Option, Some, None, Ok, Err, refl, sym, ap, ◌∙◌, arith, append_assoc, append-nil}
use Rattle.std.specs.Prelude.{◌≢◌}
use Rattle.fax_bits.specs.Bits.{bits}
use Rattle.fax_bits.specs.declared.Colour.{Colour}
use Rattle.fax_page.specs.declared.StripForm.{StripForm}
use Rattle.fax_page.specs.declared.StripFault.{StripFault}
use Rattle.fax_page.specs.Lines.{white_row}
use Rattle.fax_page.specs.declared.StripFault.TheVariants.{MissingEol}
use Rattle.fax_page.specs.declared.salvage_reader.Salvaged.{Salvaged}
use Rattle.fax_page.specs.declared.salvage_reader.Salvaged.TheVariants as in_strip
use Rattle.fax_page.specs.Salvage.{SalvagedRow, found, lost, unended, AreSalvaged, IsSalvagedStrip}
use Rattle.fax_walk.specs.code.SalvageItems.{AreWholeBefore, IsCleanSoFar, IsWholeStrip, is_found}
use Rattle.fax_page.specs.views.Salvage.{SalvageState, salvage_beginning, FindsRow, IsSalvageStep}
use Rattle.fax_files.specs.declared.PageForm.{PageForm}
use Rattle.fax_files.specs.Page.{strip_form}
use Rattle.fax_files.specs.laws.TiffFiles.{IsWholeForm}
use Rattle.fax_files.specs.views.Page.{IsPageForm}
use Rattle.fax_files.specs.views.Tiff.{PageStrips, TiffDirectory, bytes_of, form_of, inside_of}
use Rattle.fax_walk.specs.code.SalvageItems.{IsInPage, StandsInStrip, seen_from}
use Rattle.fax_walk.specs.views.RowsFrom.{EndsWithPage}
use Rattle.fax_page.specs.laws.Salvage.{UpcomingRowsStandInStrips, FindsWholeStrips}
use Rattle.std.proofs.Common.{subst}
use Rattle.fax_walk.specs.Salvaged.{PageRow, on_page, IsStripLeft, AreStripsLeft}
use Rattle.fax_walk.specs.code.Opening.{page_with}
use Rattle.fax_walk.specs.code.SalvageItems.{RowsState, AreBytesLeft, AreRowsLeft, IsBeforeRows, EntersStrip}
use Rattle.fax_walk.specs.declared.salvage_rows.SalvagedPart.TheVariants.{Lost}
use Rattle.fax_walk.specs.code.SalvageItems.{cause_of, part_of, IsPart}
use Rattle.std.proofs.lemmas.Bool.{cases_lt}
use Rattle.std.proofs.lemmas.List.{map-append}
use Rattle.fax_walk.proofs.OpenPageLemmas.{whole_of}
use Rattle.fax_walk.proofs.SalvageStepLemmas.{PassesAs, found_before, none_after, over_of, step_passes}
use Rattle.std.proofs.Common.{length}
use Rattle.std.proofs.lemmas.List.{length-replicate}
use Rattle.fax_walk.specs.code.SalvageItems.{GoesOverRows, upcoming_row}
use Rattle.fax_walk.specs.Pages.{Cause}
use Rattle.fax_page.proofs.SalvagePlaceLaws.{rest_of_rest}

-- the names of causes
lost_named : (form : PageForm) (whole : Bool) (fault : StripFault)
    → on_page form whole (lost fault) ≡ Err (cause_of fault whole)
lost_named form whole fault = grind arith

unended_named : (form : PageForm) (whole : Bool) (row : List Colour)
    → on_page form whole (unended row) ≡ Err (cause_of MissingEol whole)
unended_named form whole row = grind arith

-- a call for the next row of a strip of a page
step_on_page : (form : PageForm) (whole : Bool) (old new : SalvageState) (salvaged : Salvaged)
    → IsSalvageStep old (Some salvaged) new
    → PassesAs (on_page form whole) old new (over_of (on_page form whole) new (part_of salvaged whole))
step_on_page form whole old new salvaged step =
    step_passes (on_page form whole) whole old new (lost_named form whole) (unended_named form whole) salvaged step

-- the rows of a strip, where it is started
strip_started : (directory : TiffDirectory) (form : PageForm) (s : ℕ) (bytes : List ℕ) (whole : Bool)
    (own : List SalvagedRow)
    → AreBytesLeft directory s bytes whole
    → AreSalvaged (strip_form form s) 0 None (white_row form.width) (bits form.order bytes) own
    → IsStripLeft directory.file (page_with directory form) s (map (on_page form whole) own)
strip_started directory form s bytes whole own remaining is = rw (remaining form) (own, is, refl)

-- the bytes of a strip that lies wholly in the file
whole_bytes : (directory : TiffDirectory) (form : PageForm) (s : ℕ) (bytes : List ℕ)
    → AreBytesLeft directory s bytes true
    → bytes_of directory s ≡ Some bytes
whole_bytes directory form s bytes remaining = by_bytes (bytes_of directory s) (remaining form)
  where
    by_bytes : (o : Option (List ℕ))
        → ◌≡◌ {A = List ℕ × Bool} (elim o [
          | Some there ↦ (there, true)
          | None ↦ (inside_of directory s, false)
        ]) (bytes, true)
        → o ≡ Some bytes
    by_bytes o same = grind arith

-- a strip of which no row is read yet
pub clean_started : (directory : TiffDirectory) (form : PageForm) (s : ℕ) (bytes : List ℕ) (reader : SalvageState)
    → AreBytesLeft directory s bytes true
    → reader ≡ salvage_beginning (strip_form form s) (bits form.order bytes) → IsCleanSoFar directory form s reader
clean_started directory form s bytes reader remaining begins = record {
  bytes = bytes;
  bytes_are = whole_bytes directory form s bytes remaining;
  rows = [];
  followed = λ own is. rw begins at is;
}

-- one row more is found
pub clean_found : (directory : TiffDirectory) (form : PageForm) (s : ℕ) (old new : SalvageState)
    → IsCleanSoFar directory form s old → FindsRow old new → IsCleanSoFar directory form s new
clean_found directory form s old new clean finds = record {
  bytes = clean.bytes;
  bytes_are = clean.bytes_are;
  rows = clean.rows ++ new.reference ∷ [];
  followed = λ own is. rw (map-append, append_assoc)
      (clean.followed (found new.reference ∷ own) (found_before old new finds own is));
}

-- a strip that is gone through is whole
pub whole_strip : FindsWholeStrips → (directory : TiffDirectory) (form : PageForm) (s : ℕ) (reader : SalvageState)
    → IsCleanSoFar directory form s reader → reader.row ≡ reader.form.rows → IsWholeStrip directory form s
whole_strip law directory form s reader clean all =
    let is = subst (IsSalvagedStrip (strip_form form s) (bits form.order clean.bytes))
    (append-nil (map (λ row. found row) clean.rows)) (clean.followed [] all) in
    record {
      bytes = clean.bytes;
      bytes_are = clean.bytes_are;
      rows = clean.rows;
      is = law.strip (strip_form form s) (bits form.order clean.bytes) clean.rows is;
    }

-- one strip more is whole
pub whole_after : (directory : TiffDirectory) (form : PageForm) (strip : ℕ) → AreWholeBefore directory form strip
    → IsWholeStrip directory form strip → AreWholeBefore directory form (strip + 1)
whole_after directory form strip before this s below = grind (arith, cases_lt)

found_alone : (salvaged : Salvaged) → is_found salvaged ≡ true → salvaged ≡ in_strip.Found
found_alone salvaged is = grind arith

-- it stays clean where the row is found
pub clean_after : (directory : TiffDirectory) (form : PageForm) (s : ℕ) (old new : SalvageState) (salvaged : Salvaged)
    → IsCleanSoFar directory form s old → IsSalvageStep old (Some salvaged) new → is_found salvaged ≡ true
    → IsCleanSoFar directory form s new
clean_after directory form s old new salvaged clean step is = grind (arith, clean_found, found_alone)

-- before the first strip
pub before_rows : (directory : TiffDirectory) (form : PageForm) (bytes : List ℕ) (whole : Bool) (reader : SalvageState)
    → IsPageForm form → AreBytesLeft directory 0 bytes whole
    → reader ≡ salvage_beginning (strip_form form 0) (bits form.order bytes)
    → IsBeforeRows directory form
    (record { directory = directory; form = form; strip = 0; whole = whole; clean = whole; reader = reader })
before_rows directory form bytes whole reader limits remaining begins = record {
  directory_is = refl;
  form_is = refl;
  first = grind (arith, begins);
  all = λ rows is.
      let own = rw begins at is.2 in
      let some : 0 < form.strips = grind (arith, limits) in (
        map (on_page form whole) is.0 ∷ is.1,
        (some, strip_started directory form 0 bytes whole is.0 remaining own, is.3),
        is.4,
      );
}

module _ (old : RowsState) (limits : IsPageForm old.form) (inside : old.strip < old.form.strips)
    (form_is : old.reader.form ≡ strip_form old.form old.strip) (within : old.reader.row ≤ old.reader.form.rows) where
  abbrev n : ℕ
  n = old.form.rows_per_strip

  whole : IsWholeForm old.form
  whole = whole_of old.form limits

  rows_are : old.reader.form.rows ≡ (strip_form old.form old.strip).rows
  rows_are = ap (λ (f : StripForm). f.rows) form_is

  -- the next strip is entered
  pub entered : (bytes : List ℕ) (all : Bool) (reader : SalvageState)
      → (strip_form old.form old.strip).rows ≤ old.reader.row → old.strip + 1 ≢ old.form.strips
      → AreBytesLeft old.directory (old.strip + 1) bytes all
      → reader ≡ salvage_beginning (strip_form old.form (old.strip + 1)) (bits old.form.order bytes)
      → (clean : Bool) → EntersStrip old (record old {
        strip = old.strip + 1;
        whole = all;
        clean = clean;
        reader =
            reader;
      })
  entered bytes all reader gone more remaining begins clean =
      let next : old.strip + 1 < old.form.strips = omega (arith, inside, more) in
      let below = whole.needed (old.strip + 1) next in
      let last : old.reader.row ≡ old.reader.form.rows = omega (arith, within, gone, rows_are) in
      let row_zero : reader.row ≡ 0 = ap (λ (s : SalvageState). s.row) begins in
      let rows_some : reader.form.rows ≡ (strip_form old.form (old.strip + 1)).rows =
      ap (λ (s : SalvageState). s.form.rows) begins in
      record {
        stays = (refl, refl);
        same_row = omega (arith, last, row_zero, rows_are, below);
        same_rows = λ rows is.
            let own = rw begins at is.2 in (
              [],
              map (on_page old.form all) is.0 ∷ is.1,
              last,
              (next, strip_started old.directory old.form (old.strip + 1) bytes all is.0 remaining own, is.3),
              is.4,
            );
        upcoming = λ none. absurd (omega (arith, none, row_zero, rows_some, below, limits.some_rows_per_strip));
      }

  -- all rows of the page are gone through
  last_strip : old.strip * n + old.reader.form.rows ≡ old.form.rows → old.strip + 1 ≡ old.form.strips
  last_strip all = grind (arith, cases_lt, rows_are)

  -- each row of the strip stands on the page
  on_the_page : (r : ℕ) → r ≤ old.reader.form.rows → old.strip * n + r ≤ old.form.rows
  on_the_page r few = grind (arith, rows_are)

  -- no strip is left after the last one
  none_later : (strips : List (List PageRow)) → old.strip + 1 ≡ old.form.strips
      → AreStripsLeft old.directory.file (page_with old.directory old.form) (old.strip + 1) strips → strips ≡ []
  none_later [] last is = refl
  none_later (rows ∷ strips) last is = absurd (omega (arith, last, is.0))

  -- and no row after its last row
  none_left : (reader : SalvageState) (rows : List PageRow) → reader.row ≡ reader.form.rows
      → old.strip + 1 ≡ old.form.strips → AreRowsLeft (record old { reader = reader }) rows → rows ≡ []
  none_left reader rows all last (own, strips, is, others, rows_are) = grind (arith, none_after, none_later, rows_are)

  -- where its last row is passed
  pub ends_with_page : (reader : SalvageState) → reader.form.rows ≡ old.reader.form.rows
      → reader.row ≤ old.reader.form.rows → (clean : Bool)
      → EndsWithPage (seen_from (record old { reader = reader; clean = clean }) [])
  ends_with_page reader same few clean upcoming rows is =
      let below = whole.needed old.strip inside in
      let all : old.strip * n + old.reader.form.rows ≡ old.form.rows = omega (arith, upcoming, few, rows_are, below) in
      let gone : reader.row ≡ reader.form.rows = omega (arith, upcoming, all, same) in
      none_left reader rows gone (last_strip all) is

  module _ (before : RowsState) (enters : EntersStrip before old) where
    pub no_part : FindsWholeStrips → (old.clean ≡ true → AreWholeBefore old.directory old.form old.strip)
        → (old.clean ≡ true → IsCleanSoFar old.directory old.form old.strip old.reader)
        → (reader : SalvageState) → IsSalvageStep old.reader None reader
        → IsPart before None (record old { reader = reader })
    no_part law whole_before clean_now reader (all, same) =
        let upcoming = enters.upcoming all in
        let upcoming_rows : old.strip * n + old.reader.form.rows ≡ old.form.rows = omega (arith, all, upcoming) in
        let last = last_strip upcoming_rows in
        rw same (
          record { stays = enters.stays; followed = enters.same_rows },
          enters.same_row,
          upcoming,
          ([], [], all, last, refl),
          (λ rows is. none_left old.reader rows all last is),
          λ clean. subst (AreWholeBefore old.directory old.form) last
              (whole_after old.directory old.form old.strip (whole_before clean)
              (whole_strip law old.directory old.form old.strip old.reader (clean_now clean) all)),
        )

    -- rows are passed
    module _ (reader : SalvageState) (clean : Bool) (over : List PageRow)
        (passes : PassesAs (on_page old.form old.whole) old.reader reader over) where
      abbrev new : RowsState
      new = record old { reader = reader; clean = clean }

      goes : GoesOverRows before over new
      goes = grind (arith, rows_are, append_assoc)

      next : upcoming_row new ≡ upcoming_row before + length over
      next = omega (arith, passes.next, enters.same_row)

    lost_part : (reader : SalvageState) (clean : Bool) (count : ℕ) (cause : Cause)
        → PassesAs (on_page old.form old.whole) old.reader reader (replicate count (Err cause))
        → IsPart before (Some (Lost count cause)) (record old { reader = reader; clean = clean })
    lost_part reader clean count cause passes =
        let over : List PageRow = replicate count (Err cause) in
        let many : length over ≡ count = length-replicate count (Err cause) in (
          goes reader clean over passes,
          omega (arith, many, passes.some),
          omega (arith, many, next reader clean over passes),
          on_the_page reader.row passes.within,
        )

    -- what became of the next row
    pub part_read : (clean : Bool) (salvaged : Salvaged) (reader : SalvageState)
        → IsSalvageStep old.reader (Some salvaged) reader
        → IsPart before (Some (part_of salvaged old.whole)) (record old { reader = reader; clean = clean })
    part_read clean in_strip.Found reader finds =
        let passes = step_on_page old.form old.whole old.reader reader in_strip.Found finds in
        let rows_are = ap (λ (f : StripForm). f.rows) passes.same_form in (
          goes reader clean _ passes,
          next reader clean _ passes,
          on_the_page reader.row passes.within,
          ap (λ (s : SalvageState). s.before) finds.new_is,
          ends_with_page reader rows_are passes.within clean,
        )
    part_read clean (in_strip.Lost fault count) reader step =
        lost_part reader clean count _ (step_on_page old.form old.whole old.reader reader (in_strip.Lost fault count)
        step)
    part_read clean (in_strip.Unterminated count) reader step =
        lost_part reader clean count _ (step_on_page old.form old.whole old.reader reader (in_strip.Unterminated count)
        step)

-- a strip that is started stands in its bits
stands_started : (directory : TiffDirectory) (form : PageForm) (s : ℕ) (bytes : List ℕ) (whole : Bool)
    (reader : SalvageState)
    → AreBytesLeft directory s bytes whole
    → reader ≡ salvage_beginning (strip_form form s) (bits form.order bytes)
    → StandsInStrip directory form s whole reader
stands_started directory form s bytes whole reader remaining begins = record {
  bytes = bytes;
  remaining = remaining;
  upcoming = λ _. (0, omega arith, sym (ap (λ (s : SalvageState). s.upcoming) begins));
}

module _ (strips : PageStrips) (form : PageForm) where
  -- before the first row of a page
  pub started_in_page : (bytes : List ℕ) (whole : Bool) (reader : SalvageState) → form_of strips.directory ≡ Ok form
      → IsPageForm form → strips.count ≡ form.strips → AreBytesLeft strips.directory 0 bytes whole
      → reader ≡ salvage_beginning (strip_form form 0) (bits form.order bytes)
      → IsInPage strips form 0 whole whole reader
  started_in_page bytes whole reader form_is limits counted remaining begins = grind (
    arith,
    stands_started,
    whole,
    clean_started,
  )

  module _ (strip : ℕ) (whole clean : Bool) (reader : SalvageState) (old : IsInPage strips form strip whole clean
      reader)
    where
      -- before the first row of the next strip
      pub next_in_page : FindsWholeStrips → (strip_form form strip).rows ≤ reader.row → strip + 1 ≢ form.strips
          → (bytes : List ℕ) (all now : Bool) (new : SalvageState) → AreBytesLeft strips.directory (strip + 1) bytes all
          → new ≡ salvage_beginning (strip_form form (strip + 1)) (bits form.order bytes)
          → (now ≡ true → (clean ≡ true) × (all ≡ true)) → IsInPage strips form (strip + 1) all now new
      next_in_page law gone more bytes all now new remaining begins split =
          let rows_are : reader.form.rows ≡ (strip_form form strip).rows =
          ap (λ (f : StripForm). f.rows) old.reader_form in
          record {
            form_is = old.form_is;
            limits = old.limits;
            counted = old.counted;
            inside = omega (arith, old.inside, more);
            reader_form = ap (λ (s : SalvageState). s.form) begins;
            within = let none : new.row ≡ 0 = ap (λ (s : SalvageState). s.row) begins in omega (arith, none);
            stands = stands_started strips.directory form (strip + 1) bytes all new remaining begins;
            whole_before = λ is. whole_after strips.directory form strip (old.whole_before (split is).0)
                (whole_strip law strips.directory form strip reader (old.clean_now (split is).0)
                (omega (arith, gone, rows_are, old.within)));
            clean_now = λ is. clean_started strips.directory form (strip + 1) bytes new (rw (split is).1 at remaining)
                begins;
          }

      -- after a row, or more
      pub read_in_page : UpcomingRowsStandInStrips → (salvaged : Salvaged) (now : Bool) (new : SalvageState)
          → IsSalvageStep reader (Some salvaged) new
          → (now ≡ true → (clean ≡ true) × (is_found salvaged ≡ true)) → IsInPage strips form strip whole now new
      read_in_page law salvaged now new step split =
          let passes = step_on_page form whole reader new salvaged step in
          let rows_are : new.form.rows ≡ reader.form.rows = ap (λ (f : StripForm). f.rows) passes.same_form in
          record {
            form_is = old.form_is;
            limits = old.limits;
            counted = old.counted;
            inside = old.inside;
            reader_form = passes.same_form ∙ old.reader_form;
            within = omega (arith, passes.within, rows_are);
            stands = record {
              bytes = old.stands.bytes;
              remaining = old.stands.remaining;
              upcoming = λ is. rest_of_rest (bits form.order old.stands.bytes) reader.upcoming new.upcoming
                  (old.stands.upcoming passes.upcoming) (law reader new salvaged step is);
            };
            whole_before = λ is. old.whole_before (split is).0;
            clean_now = λ is. clean_after strips.directory form strip reader new salvaged (old.clean_now (split is).0)
                step
                (split is).1;
          }
