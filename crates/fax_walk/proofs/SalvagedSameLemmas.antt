-- A file without a fault, whose pages say nothing of bad rows, is salvaged to what it is converted to.
use Rattle.std.proofs.Common.{◌≡◌, ℕ, zero, suc, ◌+◌, ◌*◌, ◌/◌, ◌<◌, ◌≤◌, ◌⊎◌, inl, inr, Bool, true, false, List, []}
use Rattle.std.proofs.Common.{◌∷◌, ◌++◌, length, map, min, Option, Some, None, Result, Ok, Err, refl, sym, ap, ◌∙◌}
use Rattle.std.proofs.Common.{subst, arith}
use Rattle.std.proofs.Common.{drop}
use Rattle.std.specs.Prelude.{All, MatchResult, flat_map, ⊤, if◌then◌else◌, nat_lt}
use Rattle.std.proofs.lemmas.Bool.Decides.{nat_tests}
use Rattle.std.proofs.lemmas.List.{length-map, map-append}
use Rattle.std.proofs.lemmas.List.Elements.{All-head, All-tail}
use Rattle.fax_bits.specs.Bits.{bits}
use Rattle.fax_bits.specs.declared.Colour.{Colour}
use Rattle.fax_bits.specs.laws.Codes.{AreBitsByIndex}
use Rattle.fax_rows.specs.Rows.{other}
use Rattle.fax_page.specs.Strip.{read_strip}
use Rattle.fax_page.specs.declared.StripFault.{StripFault}
use Rattle.fax_page.specs.laws.Lines.{IsStrip, LinesAreReadByAFunction}
use Rattle.fax_page.specs.laws.Salvage.{FindsWholeStrips, SalvagesStripsOneWay}
use Rattle.fax_page.specs.Salvage.{IsSalvagedStrip, SalvagedRow, found}
use Rattle.fax_files.specs.declared.Cause.{Cause}
use Rattle.fax_files.specs.declared.Cause.TheVariants.{File, Strip}
use Rattle.fax_files.specs.declared.FileFault.TheVariants.{StripOutside}
use Rattle.fax_files.specs.declared.Endian.{Endian}
use Rattle.fax_files.specs.declared.PageForm.{PageForm}
use Rattle.fax_files.specs.declared.FileFault.{FileFault}
use Rattle.fax_files.specs.BadRows.{received}
use Rattle.fax_files.specs.Directory.{Header, header, read_chain}
use Rattle.fax_files.specs.Page.{page, strip_bytes, strip_form}
use Rattle.fax_files.specs.laws.TiffFiles.{AreStrips, FormsAreWhole, IsWholeForm, joined, shown}
use Rattle.fax_walk.specs.declared.end.End.TheVariants.{EndOfPages, Fault}
use Rattle.fax_walk.specs.declared.cursor.Cursor.{Cursor}
use Rattle.fax_walk.specs.Pages.{AreForms, AreFrom, FilePage, FormItem, IsForm, ends_as, page_with_form, read_page}
use Rattle.fax_walk.specs.Items.{AreItems, IsRow, RowItem, RowPosition, exchanged, first_at}
use Rattle.fax_walk.specs.Salvaged.{AreRowsOfPage, AreStripsLeft, PageRow, on_page, strip_left}
use Rattle.fax_walk.specs.Converted.{IsSource, IsTiff, SourcePage, pages_of}
use Rattle.fax_walk.specs.SalvagedFile.{AreSalvagedPages, IsSalvagedPage, IsSalvagedSource, bad_rows, salvaged_page}
use Rattle.fax_walk.specs.code.Opening.{IsPageOf}
use Rattle.fax_walk.specs.code.Output.{form_sheet, page_of}
use Rattle.fax_walk.specs.code.Sources.{pels_of_runs}
use Rattle.fax_walk.specs.laws.SalvagedFiles.{SaysNoBadRows, WholeFilesAreConverted}
use Rattle.fax_walk.specs.laws.WrittenFiles.{WalkedRow, numbered, walked}
use Rattle.fax_walk.specs.code.RowPlaces.{first_on}
use Rattle.fax_walk.specs.laws.InOrder.{LeadTo}
use Rattle.fax_walk.proofs.InOrderLemmas.{IsOneAnswer, ended_at, leads_both, one_from}
use Rattle.fax_walk.proofs.RowLawLemmas.{LinesAreRead, any_row, one_row, whole_page}
use Rattle.fax_walk.proofs.EndingLemmas.{no_header}
use Rattle.fax_walk.proofs.FileLemmas.{some_pages}
use Rattle.fax_walk.proofs.PageLawLemmas.{next_dropped, no_page, some_page}
use Rattle.fax_walk.proofs.ReadBackLemmas.{not_both, pages_counted}
use Rattle.fax_walk.proofs.SalvagedShapeLemmas.{strips_count}
use Rattle.fax_walk.proofs.SourcePageLemmas.{after_led, first_page, found_page, not_there}
use Rattle.fax_walk.proofs.PageRowLemmas.{shown_both, strips_from}
use Rattle.fax_walk.proofs.SalvagedAgainLemmas.{found_paper, founds, none_longest, none_lost, strip_found}
use Rattle.fax_walk.proofs.StripPlaceLemmas.{in_strip, shown_row, strip_count}
use Rattle.fax_walk.proofs.StripRowLemmas.{AreRead, row_at, strip_rows, walked_length}

module _ (by_place : AreBitsByIndex) (lines_read : LinesAreRead) (file : List ℕ) (endian : Endian) (q : ℕ)
    (form : PageForm) (p : ℕ) (page : IsPageOf file p (record { endian = endian; offset = q; form = form }))
    (whole : IsWholeForm form) where
  abbrev n : ℕ
  n = form.rows_per_strip

  -- the rows from a place on end with a fault
  abbrev HasFault : RowPosition → Type 0
  HasFault at =
      (own : List RowItem) × (to : RowPosition) × LeadTo (IsRow file) at own to
      × ((k r : ℕ) × (cause : Cause) × IsRow file to (ends_as (Fault k r cause)))

  -- the strips from one on are whole
  abbrev AreWhole : ℕ → Type 0
  AreWhole s = (strips : List (List (List Colour))) × AreStrips endian file q form s strips None

  module _ (s : ℕ) (inside : s < form.strips) where
    below : s * n < form.rows
    below = whole.needed s inside

    number : s * n / n ≡ s
    number = (in_strip n s 0 (s * n) whole.some_in_strip (omega arith)).0

    -- a strip that is not there
    none_there : strip_bytes endian file q s ≡ None → HasFault (first_at p (s * n))
    none_there none = (
      [],
      first_at p (s * n),
      refl,
      (
        p,
        s * n / n * n,
        File StripOutside,
        row_at by_place lines_read file endian q form p page whole (s * n) None None
            (ends_as (Fault p (s * n / n * n) (File StripOutside)))
            (subst (λ k. strip_bytes endian file q k ≡ None) (sym number) none) refl,
      ),
    )

    -- a strip, and those after it
    module _ (bytes : List ℕ) (there : strip_bytes endian file q s ≡ Some bytes)
        (later : (rows : List (List Colour)) → length rows ≡ (strip_form form s).rows
        → AreWhole (s + 1) ⊎ HasFault (first_on form p (s * n + length rows))) where
      by_end : (rows : List (List Colour)) (stop : Option StripFault)
          → IsStrip (strip_form form s) (bits form.order bytes) rows stop
          → AreWhole s ⊎ HasFault (first_at p (s * n))
      by_end rows (Some fault) is =
          let read = strip_rows by_place lines_read file endian q form p page whole s below bytes there rows
          (Some fault) is in
          inr (read.items, read.to, read.lead, (p, s * n + length rows, Strip fault, read.there))
      by_end rows None is =
          let read = strip_rows by_place lines_read file endian q form p page whole s below bytes there rows None is in
          let count = strip_count (strip_form form s) (bits form.order bytes) rows None is in
          elim (later rows count) [
            | inl all ↦ inl (rows ∷ all.0, (inside, bytes, None, there, is, inl (refl, all.1)))
            | inr faulty ↦ inr (
              read.items ++ faulty.0,
              faulty.1,
              leads_both (IsRow file) (first_at p (s * n)) read.to read.items faulty.0 faulty.1 read.lead
                  (subst (λ at. LeadTo (IsRow file) at faulty.0 faulty.1) (sym read.there) faulty.2),
              faulty.3,
            )
          ]

    one_strip : (found : Option (List ℕ)) → strip_bytes endian file q s ≡ found
        → ((rows : List (List Colour)) → length rows ≡ (strip_form form s).rows
        → AreWhole (s + 1) ⊎ HasFault (first_on form p (s * n + length rows)))
        → AreWhole s ⊎ HasFault (first_at p (s * n))
    one_strip None there later = inr (none_there there)
    one_strip (Some bytes) there later =
        let strip = read_strip (strip_form form s) (bits form.order bytes) in
        by_end bytes there later strip.rows strip.end (refl, refl)

  strips_on : (count s : ℕ) → s + count ≡ form.strips
      → AreWhole s ⊎ HasFault (first_on form p (min (s * n) form.rows))
  strips_on zero s all = inl ([], inl (omega (arith, all), refl))
  strips_on (suc count) s all =
      let inside : s < form.strips = omega (arith, all) in
      let before = below s inside in
      let upcoming : nat_lt (min (s * n) form.rows) form.rows ≡ true = grind (arith, nat_tests, before) in
      let here : min (s * n) form.rows ≡ s * n = omega (arith, before) in
      let start : first_on form p (min (s * n) form.rows) ≡ first_at p (s * n) = rw (upcoming, here) refl in
      subst (λ at. AreWhole s ⊎ HasFault at) (sym start)
      (one_strip s inside (strip_bytes endian file q s) refl (λ rows len.
      let there : min ((s + 1) * n) form.rows ≡ s * n + length rows =
      let place : (s + 1) * n ≡ s * n + n = omega arith in omega (arith, len, before, place) in
      subst (λ r. AreWhole (s + 1) ⊎ HasFault (first_on form p r)) there
      (strips_on count (s + 1) (omega (arith, all)))))

  -- where the rows end properly the page is whole
  pub page_whole : ((at : RowPosition) → IsOneAnswer (IsRow file at)) → (items : List RowItem)
      → AreFrom (IsRow file) (first_at p 0) items EndOfPages → AreWhole 0
  page_whole answers items are = elim (strips_on form.strips 0 (omega arith)) [
    | inl all ↦ all
    | inr faulty ↦
        let some : nat_lt (min (0 * n) form.rows) form.rows ≡ true = grind (arith, nat_tests, whole.some_rows) in
        let none : min (0 * n) form.rows ≡ 0 = omega arith in
        let start : first_on form p (min (0 * n) form.rows) ≡ first_at p 0 = rw (some, none) refl in
        let lead : LeadTo (IsRow file) (first_at p 0) faulty.0 faulty.1 =
        subst (λ at. LeadTo (IsRow file) at faulty.0 faulty.1) start faulty.2 in
        let ended = ended_at (IsRow file) (first_at p 0) faulty.1 faulty.0
        (Fault faulty.3.0 faulty.3.1 faulty.3.2) lead faulty.3.3 in
        let same = one_from (IsRow file) answers (first_at p 0) items faulty.0 EndOfPages
        (Fault faulty.3.0 faulty.3.1 faulty.3.2) are ended in
        let no = same.1 in absurd cc
  ]

-- the rows of a whole strip are found, as they are shown
none_shown : (form : PageForm) → founds (shown form []) ≡ []
none_shown form = by_test form.exchanged
  where
    by_test : (test : Bool) → founds (if test then map (map other) [] else []) ≡ []
    by_test true = refl
    by_test false = refl

founds_shown : (form : PageForm) (rows : List (List Colour))
    → map (on_page form true) (map (λ row. found row) rows) ≡ founds (shown form rows)
founds_shown form [] = sym (none_shown form)
founds_shown form (row ∷ rows) =
    ap (λ (l : List PageRow). Ok (exchanged form row) ∷ l) (founds_shown form rows)
    ∙ ap founds (sym (shown_row form row rows))

-- the rows of whole strips are found
module _ (lines : LinesAreReadByAFunction) (finds : FindsWholeStrips) (file : List ℕ) (endian : Endian) (q : ℕ)
    (form : PageForm) where
  abbrev here : FilePage
  here = record { endian = endian; offset = q; form = form }

  strips_found : (s : ℕ) (strips : List (List (List Colour))) → AreStrips endian file q form s strips None
      → AreStripsLeft file here s (map (λ rows. founds (shown form rows)) strips)
  strips_found s [] (inl (all, none)) = all
  strips_found s [] (inr (inside, outside, wrong)) = absurd cc
  strips_found s (rows ∷ strips) (inside, bytes, stop, there, is, inr (fault, some, none, wrong)) = absurd cc
  strips_found s (rows ∷ strips) (inside, bytes, Some fault, there, is, inl (wrong, later)) = absurd cc
  strips_found s (rows ∷ strips) (inside, bytes, None, there, is, inl (none, later)) =
      let remaining : strip_left here file s ≡ (bytes, true) = rw (there, strip_left) refl in
      let own = map (λ row. found row) rows in
      let found_is = strip_found lines finds (strip_form form s) (bits form.order bytes) rows is in (
        inside,
        subst (λ r. (own : List SalvagedRow)
            × IsSalvagedStrip (strip_form form s) (bits form.order r.0) own
            × (founds (shown form rows) ≡ map (on_page form r.1) own)) (sym remaining)
            (own, found_is, sym (founds_shown form rows)),
        strips_found (s + 1) strips later,
      )

  shown_joined : (strips : List (List (List Colour)))
      → founds (shown form (joined strips))
      ≡ flat_map (λ rows. rows) (map (λ rows. founds (shown form rows)) strips)
  shown_joined [] = none_shown form
  shown_joined (rows ∷ strips) =
      ap founds (shown_both form rows (joined strips))
      ∙ map-append (λ row. Ok row) (shown form rows) (shown form (joined strips))
      ∙ ap (λ (l : List PageRow). founds (shown form rows) ++ l) (shown_joined strips)

  pub page_found : (strips : List (List (List Colour))) → AreStrips endian file q form 0 strips None
      → AreRowsOfPage file here (founds (shown form (joined strips)))
  page_found strips are =
      (map (λ rows. founds (shown form rows)) strips, strips_found 0 strips are, shown_joined strips)

-- the pels of rows with their places
pels_numbered : (p r : ℕ) (rows : List (List Colour)) → map (λ (w : WalkedRow). w.pels) (numbered p r rows) ≡ rows
pels_numbered p r [] = refl
pels_numbered p r (row ∷ rows) = ap (λ (l : List (List Colour)). row ∷ l) (pels_numbered p (r + 1) rows)

pels_walked : (own : List RowItem) → pels_of_runs own ≡ map (λ (w : WalkedRow). w.pels) (map walked own)
pels_walked [] = refl
pels_walked (item ∷ own) = ap (λ (l : List (List Colour)). item.pels ∷ l) (pels_walked own)

-- what the laws say
pub record Knows (file : List ℕ) : Type 0 where
  pub by_place : AreBitsByIndex
  pub lines_read : LinesAreRead
  pub lines : LinesAreReadByAFunction
  pub finds : FindsWholeStrips
  pub salvages : SalvagesStripsOneWay
  pub wholes : FormsAreWhole

module _ (file : List ℕ) (laws : Knows file) where
  answers : (at : RowPosition) → IsOneAnswer (IsRow file at)
  answers = one_row laws.by_place laws.lines_read file

  -- the next page, and the items after it
  record IsPageSame (p : ℕ) (here : FilePage) (items : List RowItem) : Type 0 where
    rows : List (List Colour)
    are : AreRowsOfPage file here (founds rows)
    others : List RowItem
    later : AreFrom (IsRow file) (first_at (p + 1) 0) others EndOfPages
    pages : (one : FormItem) (forms : List FormItem) → one.form ≡ here.form
        → pages_of (one ∷ forms) items ≡ page_of (form_sheet here.form) rows None ∷ pages_of forms others

  page_same : (p : ℕ) (here : FilePage) → read_page file (record { page = p; row = 0 }) ≡ Ok here
      → (items : List RowItem) → AreFrom (IsRow file) (first_at p 0) items EndOfPages → IsPageSame p here items
  page_same p here is items are =
      let at : Cursor = record { page = p; row = 0 } in
      let form = here.form in
      let whole = whole_page file laws.wholes at here is in
      let page : IsPageOf file p here = λ r. any_row file at r here is in
      let all = page_whole laws.by_place laws.lines_read file here.endian here.offset form p page whole answers items
      are in
      let rows = shown form (joined all.0) in
      let found_are = page_found laws.lines laws.finds file here.endian here.offset form all.0 all.1 in
      let some : nat_lt 0 form.rows ≡ true = grind (arith, nat_tests, whole.some_rows) in
      let read : AreRead file p (first_at p 0) 0 rows (λ to. to ≡ first_at (p + 1) 0) =
      rw some at (strips_from laws.by_place laws.lines_read file here.endian here.offset form p page whole all.0 0 0
      (omega arith) all.1) in
      let split = after_led (IsRow file) answers (first_at p 0) read.to read.items items EndOfPages read.lead are in
      let total = strips_count laws.salvages file here whole 0 found_are.0 found_are.1 in
      let count : length read.items ≡ form.rows =
      omega (
        arith,
        walked_length file p (first_at p 0) 0 rows (λ to. to ≡ first_at (p + 1) 0) read,
        length-map {B = PageRow} rows (λ row. Ok row),
        ap length found_are.2,
        total,
      ) in
      let pels : pels_of_runs read.items ≡ rows =
      pels_walked read.items ∙ ap (map (λ (w : WalkedRow). w.pels)) read.rows_are ∙ pels_numbered p 0 rows in
      record {
        rows = rows;
        are = found_are;
        others = split.0;
        later = subst (λ to. AreFrom (IsRow file) to split.0 EndOfPages) read.there split.2;
        pages = λ one forms same.
            first_page one forms items read.items split.0 split.1 (count ∙ ap (λ (f : PageForm). f.rows) (sym same))
            ∙ ap (λ l. page_of (form_sheet one.form) l None ∷ pages_of forms split.0) pels
            ∙ ap (λ (f : PageForm). page_of (form_sheet f) rows None ∷ pages_of forms split.0) same;
      }

  module _ (head : Header) (is : header file ≡ Ok head) where
    abbrev offsets : List ℕ
    offsets = (read_chain head file).offsets

    -- nothing is said of bad rows
    abbrev SaysNone : ℕ → Type 0
    SaysNone q = bad_rows 0 0 (received head.endian file q) ≡ None

    as_salvaged : (q : ℕ) (form : PageForm) (rows : List (List Colour)) → SaysNone q
        → salvaged_page form (received head.endian file q) (founds rows) ≡ page_of (form_sheet form) rows None
    as_salvaged q form rows none = rw (found_paper form.width rows, none_lost rows, none_longest rows, none) refl

    by_fields : (p q : ℕ) (here : FilePage) (fields : Result PageForm FileFault)
        → page_with_form head.endian q p fields ≡ Ok here
        → (fields ≡ Ok here.form) × (here ≡ record { endian = head.endian; offset = q; form = here.form })
    by_fields p q here (Err fault) same = absurd cc
    by_fields p q here (Ok form) same =
        let e : record { endian = head.endian; offset = q; form = form } ≡ here = cc in (
          ap (λ (h : FilePage). Ok h.form) e,
          sym e ∙ ap (λ (h : FilePage). record {
            endian = head.endian;
            offset = q;
            form = h.form;
          }) e,
        )

    forms_same : (l : List ℕ) (p : ℕ) (forms : List FormItem) (items : List RowItem) → drop p offsets ≡ l
        → All SaysNone l → AreFrom (IsForm file) p forms EndOfPages
        → AreFrom (IsRow file) (first_at p 0) items EndOfPages
        → AreSalvagedPages head.endian file l (pages_of forms items)
    forms_same [] p [] items at none forms_are are = refl
    forms_same [] p (one ∷ forms) items at none (next, step, rest) are =
        let found_is = found_page file p one next step in
        let no = no_page file head is (record { page = p; row = 0 }) at in absurd cc
    forms_same (q ∷ l) p [] items at none forms_are are =
        let there = some_page file head is (record { page = p; row = 0 }) q l at in
        let no = not_there file p EndOfPages forms_are in
        absurd (never (page head.endian file q) (sym there ∙ no))
      where
        never : (fields : Result PageForm FileFault) → page_with_form head.endian q p fields ≡ Err EndOfPages → ⊥
        never (Ok form) same = cc
        never (Err fault) same = cc
    forms_same (q ∷ l) p (one ∷ forms) items at none (next, step, rest) are =
        let found_is = found_page file p one next step in
        let there = some_page file head is (record { page = p; row = 0 }) q l at in
        let fields = by_fields p q found_is.0 (page head.endian file q) (sym there ∙ found_is.1) in
        let here : FilePage = record { endian = head.endian; offset = q; form = found_is.0.form } in
        let same = page_same p found_is.0 found_is.1 items are in
        let form = found_is.0.form in
        let own : IsSalvagedPage head.endian file q (Ok form) (page_of (form_sheet form) same.rows None ∷ []) = (
          founds same.rows,
          subst (λ h. AreRowsOfPage file h (founds same.rows)) fields.1 same.are,
          ap (λ (s : SourcePage). s ∷ []) (sym (as_salvaged q form same.rows (All-head SaysNone q l none))),
        ) in (
          page_of (form_sheet form) same.rows None ∷ [],
          pages_of forms same.others,
          subst (λ f. IsSalvagedPage head.endian file q f (page_of (form_sheet form) same.rows None ∷ []))
              (sym fields.0) own,
          forms_same l (p + 1) forms same.others (next_dropped p offsets q l at) (All-tail SaysNone q l none)
              (rw found_is.3 at rest) same.later,
          same.pages one forms found_is.2,
        )

  by_header : (answer : Result Header FileFault) → header file ≡ answer
      → MatchResult answer (λ head. All (λ q. bad_rows 0 0 (received head.endian file q) ≡ None)
      (read_chain head file).offsets) (λ fault. ⊤)
      → (forms : List FormItem) (items : List RowItem) → AreForms file forms EndOfPages
      → AreItems file items EndOfPages → IsSalvagedSource file (pages_of forms items)
  by_header (Err fault) is none forms items forms_are are = absurd (bad_header forms forms_are)
    where
      bad_header : (forms : List FormItem) → AreForms file forms EndOfPages → ⊥
      bad_header [] forms_are =
          let no = no_header file (record { page = 0; row = 0 }) fault is in
          let end = not_there file 0 EndOfPages forms_are in cc
      bad_header (one ∷ forms) (next, step, rest) =
          let no = no_header file (record { page = 0; row = 0 }) fault is in
          let found_is = found_page file 0 one next step in cc
  by_header (Ok head) is none forms items forms_are are =
      rw is (forms_same head is (read_chain head file).offsets 0 forms items refl none forms_are are)

  -- the pages of a source without a fault are those that are salvaged
  pub same_source : SaysNoBadRows file → (pages : List SourcePage) → IsTiff file → IsSource file pages
      → IsSalvagedSource file pages × (1 ≤ length pages)
  same_source none pages tiff (inl (begins, images, are, pages_are)) = absurd (not_both file begins tiff)
  same_source none pages tiff (inr (is_tiff, forms, items, forms_are, items_are, pages_are)) = (
    subst (IsSalvagedSource file) (sym pages_are) (by_header (header file) refl none forms items forms_are items_are),
    omega (arith, some_pages file forms forms_are, ap length pages_are, pages_counted forms items),
  )

pub converted_is_salvaged : ((file : List ℕ) → Knows file) → WholeFilesAreConverted
converted_is_salvaged laws file options output tiff none converted =
    let source = same_source file (laws file) none converted.pages tiff converted.source in
    record {
      pages = converted.pages;
      source = source.0;
      some = source.1;
      output_is = converted.output_is;
      fits = converted.fits;
    }
