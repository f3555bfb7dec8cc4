-- What a function reports of a file is what is defined to be reported.
use Rattle.std.proofs.Common.{arith, ◌≡◌, ℕ, zero, suc, ◌+◌, ◌-◌, ◌*◌, ◌<◌, ◌≤◌, List, [], ◌∷◌, ◌++◌, length, refl, ap}
use Rattle.std.proofs.Common.{sym, ◌∙◌, subst, Bool, true, false, Option, Some, None, Result, Ok, Err}
use Rattle.std.specs.Prelude.{◌==◌, flat_map, if◌then◌else◌, nat_lt}
use Rattle.std.proofs.lemmas.Bool.Decides.{nat_tests}
use Rattle.fax_bits.specs.laws.Codes.{AreBitsByIndex}
use Rattle.fax_bits.specs.Bits.{bits}
use Rattle.fax_page.specs.declared.StripFault.{StripFault}
use Rattle.fax_page.specs.declared.notes.StripNotes.{StripNotes}
use Rattle.fax_page.specs.declared.StripForm.{StripForm}
use Rattle.fax_page.specs.Strip.{StripRead, most_rows, noted, notes_after, read_strip}
use Rattle.fax_page.specs.laws.Lines.{IsStrip}
use Rattle.fax_files.specs.declared.FileFault.TheVariants.{StripOutside}
use Rattle.fax_files.specs.declared.PageForm.{PageForm}
use Rattle.fax_files.specs.Page.{strip_bytes, strip_form}
use Rattle.fax_files.specs.laws.TiffFiles.{FilesHaveOneChain, FormsAreWhole, IsWholeForm}
use Rattle.fax_walk.specs.declared.checking.Note.{Note}
use Rattle.fax_walk.specs.declared.checking.Report.{Report}
use Rattle.fax_walk.specs.declared.end.End.{End}
use Rattle.fax_walk.specs.declared.walk.Place.{Place}
use Rattle.fax_files.specs.declared.Cause.{Cause}
use Rattle.fax_walk.specs.declared.end.End.TheVariants.{EndOfPages, Fault, Outside}
use Rattle.fax_walk.specs.Pages.{AreFrom, FilePage, read_page, NextItem, goes_on, ends_as, File, Strip}
use Rattle.fax_walk.specs.Items.{AreItems, IsRow, RowItem, RowPosition, first_at}
use Rattle.fax_walk.specs.Report.{IsNoted, IsReport, IsReportedEnd, noted_on, noted_strip, notes_on_strip}
use Rattle.fax_walk.specs.code.RowPlaces.{first_on}
use Rattle.fax_walk.proofs.FileEndLemmas.{never_outside}
use Rattle.fax_walk.proofs.InOrderLemmas.{IsSingle, joined, ended_at, single_from, two_of}
use Rattle.fax_walk.proofs.PageLawLemmas.{by_page, page_few, proper_after, single_on_page}
use Rattle.fax_walk.proofs.RowLawLemmas.{LinesAreRead, any_row, whole_page}
use Rattle.fax_walk.proofs.StripPlaceLemmas.{in_strip, strip_count}
use Rattle.fax_walk.proofs.StripRowLemmas.{row_at, strip_rows}
use Rattle.fax_walk.proofs.TailLawLemmas.{files_have_one_items}
use Rattle.fax_reads.specs.Files.{all_after, read_all, read_rows}
use Rattle.fax_reads.specs.Reports.{ReportRead, fault_and_place, pages_to, read_noted, read_notes, read_report}
use Rattle.fax_reads.specs.laws.Reports.{ReportsAreReadByAFunction, parts_of}
use Rattle.fax_reads.proofs.FileGraph.{on_page, rows_are}

abbrev Next : Type 0
Next = ℕ × Option ℕ

module _ (with_received : Bool) (file : List ℕ) where
  noted_is : (at : Next) → IsNoted with_received file at (read_noted with_received file at)
  noted_is (p, strip) =
      on_page (read_page file (record { page = p; row = 0 }))
      (λ here (step : NextItem (List Note) Next). step ≡ noted_on with_received file p strip here) ends_as
      (λ found. elim found [ Err end ↦ ends_as end | Ok here ↦ noted_on with_received file p strip here ])
      (λ end. refl) (λ here. refl)

-- a strip with notes has all its rows, and one with none has a fault after so many
abbrev Found : Type 0
Found = Result StripNotes (ℕ × StripFault)

abbrev found_in : StripForm → List Bool → StripRead → Option StripFault → Found
found_in form b strip end =
    elim end [
      | None ↦ Ok (notes_after form b strip.rows strip.remaining)
      | Some fault ↦ Err (length strip.rows, fault)
    ]

abbrev IsFoundAs : StripForm → List Bool → Found → Type 0
IsFoundAs form b (Ok found) = IsStrip form b (read_strip form b).rows None
IsFoundAs form b (Err (rows, fault)) =
    (length (read_strip form b).rows ≡ rows) × IsStrip form b (read_strip form b).rows (Some fault)

found_as : (form : StripForm) (b : List Bool) → IsFoundAs form b (noted form b)
found_as form b = by (read_strip form b).end refl
  where
    by : (end : Option StripFault) → (read_strip form b).end ≡ end
        → IsFoundAs form b (found_in form b (read_strip form b) end)
    by None is = (refl, is)
    by (Some fault) is = (refl, (refl, is))

-- what is noted of a strip, by what is found in it
abbrev noted_by : PageForm → ℕ → ℕ → Found → NextItem (List Note) Next
noted_by form p s found =
    elim found [
      | Ok notes ↦ goes_on (notes_on_strip p s notes)
          (if s + 1 == form.strips then (p + 1, None) else (p, Some (s + 1)))
      | Err (rows, fault) ↦ ends_as (Fault p (s * form.rows_per_strip + rows) (Strip fault))
    ]

-- a strip that is expected is one of its page
abbrev IsUpcoming : List ℕ → Next → Type 0
IsUpcoming file (p, None) = Unit {0}
IsUpcoming file (p, Some s) =
    (here : FilePage) × (read_page file (record { page = p; row = 0 }) ≡ Ok here) × (s < here.form.strips)

-- more than what is left
abbrev measure : List ℕ → Next → ℕ
measure file (p, None) = (length file - p) * 1000002 + 1000001
measure file (p, Some s) = (length file - p) * 1000002 + (1000000 - s)

few_strips : (form : PageForm) → IsWholeForm form → (s : ℕ) → s < form.strips → s < 1000000
few_strips form whole s upcoming = by_rows form.rows_per_strip whole.some_in_strip (whole.needed s upcoming)
  where
    by_rows : (n : ℕ) → 1 ≤ n → s * n < form.rows → s < 1000000
    by_rows zero some less = absurd (omega (arith, some))
    by_rows (suc n) some less = omega (arith, less, whole.rows)

some_strips : (form : PageForm) → IsWholeForm form → 0 < form.strips
some_strips form whole = by_count form.strips whole.enough
  where
    by_count : (n : ℕ) → form.rows ≤ n * form.rows_per_strip → 0 < n
    by_count zero enough = absurd (omega (arith, enough, whole.some_rows))
    by_count (suc n) enough = omega arith

module _ (chains : FilesHaveOneChain) (forms : FormsAreWhole) (with_received : Bool) (file : List ℕ) where
  abbrev Falls : Next → Next → Type 0
  Falls at to = IsUpcoming file to × (measure file to < measure file at)

  after_strip : (p s : ℕ) (here : FilePage) → read_page file (record { page = p; row = 0 }) ≡ Ok here
      → s < here.form.strips → (test : Bool) → (s + 1 == here.form.strips) ≡ test
      → Falls (p, Some s) (if test then (p + 1, None) else (p, Some (s + 1)))
  after_strip p s here page upcoming true at =
      let few = page_few chains file (record { page = p; row = 0 }) here page in
      (tt, omega (arith, few))
  after_strip p s here page upcoming false at =
      let few = few_strips here.form (whole_page file forms (record { page = p; row = 0 }) here page) s upcoming in
      let next : s + 1 < here.form.strips = grind (arith, nat_tests, at, upcoming) in
      ((here, page, next), omega (arith, few))

  in_file : (p s : ℕ) (here : FilePage) → read_page file (record { page = p; row = 0 }) ≡ Ok here
      → s < here.form.strips → (found : Option (List ℕ)) (item : List Note) (to : Next)
      → goes_on item to ≡ noted_strip here.form p s found → Falls (p, Some s) to
  in_file p s here page upcoming None item to is = absurd (cc (is))
  in_file p s here page upcoming (Some bytes) item to is =
      by (noted (strip_form here.form s) (bits here.form.order bytes)) is
    where
      by : (found : Found) → goes_on item to ≡ noted_by here.form p s found → Falls (p, Some s) to
      by (Err (rows, fault)) is = absurd (cc (is))
      by (Ok found) is =
          let to_is : to ≡ (if s + 1 == here.form.strips then (p + 1, None) else (p, Some (s + 1))) = cc (is) in
          subst (Falls (p, Some s)) (sym to_is) (after_strip p s here page upcoming (s + 1 == here.form.strips) refl)

  falls : (at : Next) (item : List Note) (to : Next) → IsUpcoming file at
      → IsNoted with_received file at (goes_on item to)
      → Falls at to
  falls (p, None) item to upcoming is = by_page file (record { page = p; row = 0 }) is (λ here page is.
      let to_is : to ≡ (p, Some 0) = cc (is) in
      let some = some_strips here.form (whole_page file forms (record { page = p; row = 0 }) here page) in
      subst (Falls (p, None)) (sym to_is) ((here, page, some), omega arith))
      (λ end page is. absurd (cc (is)))
  falls (p, Some s) item to (here, page, upcoming) is =
      in_file p s here page upcoming (strip_bytes here.endian file here.offset s) item to (rw page at is)

  module _ (is : (at : Next) → IsNoted with_received file at (read_noted with_received file at)) where
    by_step : (limit : ℕ) (at : Next) (step : NextItem (List Note) Next) → IsNoted with_received file at step
        → ((item : List Note) (to : Next) → IsNoted with_received file at (goes_on item to)
        → AreFrom (IsNoted with_received file) to (read_all limit (read_noted with_received file) to).items
        (read_all limit (read_noted with_received file) to).end)
        → AreFrom (IsNoted with_received file) at (all_after (read_all limit (read_noted with_received file))
        step).items
        (all_after (read_all limit (read_noted with_received file)) step).end
    by_step limit at (ends_as end) here more = here
    by_step limit at (goes_on item to) here more = (to, here, more item to here)

    all_noted : (limit : ℕ) (at : Next) → IsUpcoming file at → measure file at < limit
        → AreFrom (IsNoted with_received file) at (read_all limit (read_noted with_received file) at).items
        (read_all limit (read_noted with_received file) at).end
    all_noted zero at upcoming few = absurd (omega (arith, few))
    all_noted (suc limit) at upcoming few =
        by_step limit at (read_noted with_received file at) (is at) (λ item to here. let less = falls at item to
        upcoming here in
        all_noted limit to less.0 (omega (arith, few, less.1)))

    pub all_are : AreFrom (IsNoted with_received file) (0, None) (read_notes with_received file).items (read_notes
        with_received file).end
    all_are = all_noted ((length file + 1) * (most_rows + 2)) (0, None) tt (omega arith)

-- the rows of a file from where notes are expected on end as the notes do
abbrev RowsFrom : List ℕ → ℕ × Option ℕ → End → Type 0
RowsFrom file (p, None) end = (items : List RowItem) × AreFrom (IsRow file) (first_at p 0) items end
RowsFrom file (p, Some s) end =
    (here : FilePage) → read_page file (record { page = p; row = 0 }) ≡ Ok here → s < here.form.strips
    → (items : List RowItem) × AreFrom (IsRow file) (first_at p (s * here.form.rows_per_strip)) items end

module _ (by_place : AreBitsByIndex) (lines_read : LinesAreRead) (chains : FilesHaveOneChain) (forms : FormsAreWhole)
    (with_received : Bool) (file : List ℕ) where
  module _ (p s : ℕ) (here : FilePage) (page : read_page file (record { page = p; row = 0 }) ≡ Ok here)
      (upcoming : s < here.form.strips) where
    abbrev n : ℕ
    n = here.form.rows_per_strip

    abbrev first : RowPosition
    first = first_at p (s * n)

    whole : IsWholeForm here.form
    whole = whole_page file forms (record { page = p; row = 0 }) here page

    pages : (r : ℕ) → read_page file (record { page = p; row = r }) ≡ Ok here
    pages r = any_row file (record { page = p; row = 0 }) r here page

    abbrev strip : StripForm
    strip = strip_form here.form s

    -- a strip that is not whole
    stops : (end : End) (found : Option (List ℕ)) → strip_bytes here.endian file here.offset s ≡ found
        → ends_as end ≡ noted_strip here.form p s found
        → (items : List RowItem) × AreFrom (IsRow file) first items end
    stops end None none is =
        let number = in_strip n s 0 (s * n) whole.some_in_strip (omega arith) in
        let same : end ≡ Fault p (s * n) (File StripOutside) = cc (is) in (
          [],
          row_at by_place lines_read file here.endian here.offset here.form p pages whole (s * n) None None
              (ends_as end) (rw number.0 none) (rw (number.0, same) refl),
        )
    stops end (Some bytes) there is =
        by (noted strip (bits here.form.order bytes)) (found_as strip (bits here.form.order bytes)) is
      where
        by : (found : Found) → IsFoundAs strip (bits here.form.order bytes) found
            → ends_as end ≡ noted_by here.form p s found → (items : List RowItem) × AreFrom (IsRow file) first items end
        by (Ok notes) has is = absurd (cc (is))
        by (Err (rows, fault)) (count, has) is =
            let read = strip_rows by_place lines_read file here.endian here.offset here.form p pages whole s
            (whole.needed s upcoming) bytes there (read_strip strip (bits here.form.order bytes)).rows (Some fault)
            has in
            let same : end ≡ Fault p (s * n + rows) (Strip fault) = cc (is) in
            (read.items, ended_at (IsRow file) first read.to read.items end read.lead (rw (same, ← count) read.there))

    -- after the rows of a whole strip
    after_rows : (end : End) (rows : ℕ) → rows ≡ (strip_form here.form s).rows → (test : Bool)
        → (s + 1 == here.form.strips) ≡ test
        → RowsFrom file (if test then (p + 1, None) else (p, Some (s + 1))) end
        → (items : List RowItem) × AreFrom (IsRow file) (first_on here.form p (s * n + rows)) items end
    after_rows end rows count true at more =
        let last : s + 1 ≡ here.form.strips = grind (arith, nat_tests, at) in
        let all : here.form.rows ≤ (s + 1) * n = rw last whole.enough in
        let total : s * n + rows ≡ here.form.rows = omega (arith, count, all, whole.needed s upcoming) in
        let test : nat_lt (s * n + rows) here.form.rows ≡ false = grind (arith, nat_tests, total) in
        rw test more
    after_rows end rows count false at more =
        let next : s + 1 < here.form.strips = grind (arith, nat_tests, at, upcoming) in
        let below = whole.needed (s + 1) next in
        let total : s * n + rows ≡ (s + 1) * n = omega (arith, count, below) in
        let test : nat_lt ((s + 1) * n) here.form.rows ≡ true = grind (arith, nat_tests, below) in
        rw (total, test) (more here page next)

    -- a strip that has notes
    goes : (end : End) (notes : List Note) (to : Next) (found : Option (List ℕ))
        → strip_bytes here.endian file here.offset s ≡ found
        → goes_on notes to ≡ noted_strip here.form p s found → RowsFrom file to end
        → (items : List RowItem) × AreFrom (IsRow file) first items end
    goes end notes to None none is more = absurd (cc (is))
    goes end notes to (Some bytes) there is more =
        by (noted strip (bits here.form.order bytes)) (found_as strip (bits here.form.order bytes)) is
      where
        by : (found : Found) → IsFoundAs strip (bits here.form.order bytes) found
            → goes_on notes to ≡ noted_by here.form p s found
            → (items : List RowItem) × AreFrom (IsRow file) first items end
        by (Err (rows, fault)) has is = absurd (cc (is))
        by (Ok own) has is =
            let rows = (read_strip strip (bits here.form.order bytes)).rows in
            let to_is : to ≡ (if s + 1 == here.form.strips then (p + 1, None) else (p, Some (s + 1))) = cc (is) in
            let read = strip_rows by_place lines_read file here.endian here.offset here.form p pages whole s
            (whole.needed s upcoming) bytes there (read_strip strip (bits here.form.order bytes)).rows None has in
            let count = strip_count strip (bits here.form.order bytes) rows None has in
            let later = after_rows end (length rows) count (s + 1 == here.form.strips) refl
            (subst (λ (t : Next). RowsFrom file t end) to_is more) in (
              read.items ++ later.0,
              joined (IsRow file) first read.to read.items later.0 end read.lead (rw read.there later.1),
            )

  agree : (at : Next) (notes : List (List Note)) (end : End) → AreFrom (IsNoted with_received file) at notes end
      → RowsFrom file at end
  agree (p, None) [] end is = by_page file (record { page = p; row = 0 }) is (λ here page is. absurd (cc (is)))
      (λ e page is. ([], rw page (cc (is))))
  agree (p, None) (note ∷ notes) end (to, is, rest) = by_page file (record { page = p; row = 0 }) is (λ here page is.
      let to_is : to ≡ (p, Some 0) = cc (is) in
      let more = subst (λ (t : Next). RowsFrom file t end) to_is (agree to notes end rest) in
      let zero : 0 * here.form.rows_per_strip ≡ 0 = omega arith in
      rw zero at
      (more here page (some_strips here.form (whole_page file forms (record { page = p; row = 0 }) here page))))
      (λ e page is. absurd (cc (is)))
  agree (p, Some s) [] end is = λ here page upcoming.
      stops p s here page upcoming end (strip_bytes here.endian file here.offset s) refl (rw page at is)
  agree (p, Some s) (note ∷ notes) end (to, is, rest) = λ here page upcoming.
      goes p s here page upcoming end note to (strip_bytes here.endian file here.offset s) refl (rw page at is)
      (agree to notes end rest)

-- where notes end properly, that page is after the last one
in_strip_proper : (form : PageForm) (p s : ℕ) (found : Option (List ℕ))
    → ends_as EndOfPages ≡ noted_strip form p s found
    → ⊥
in_strip_proper form p s None is = absurd (cc (is))
in_strip_proper form p s (Some bytes) is = by (noted (strip_form form s) (bits form.order bytes)) is
  where
    by : (found : Found) → ends_as EndOfPages ≡ noted_by form p s found → ⊥
    by (Ok notes) is = absurd (cc (is))
    by (Err (rows, fault)) is = absurd (cc (is))

proper_at : (with_received : Bool) (file : List ℕ) (at : Next) (notes : List (List Note))
    → AreFrom (IsNoted with_received file) at notes EndOfPages
    → (p : ℕ) × (read_page file (record { page = p; row = 0 }) ≡ Err EndOfPages)
proper_at with_received file (p, None) [] is = by_page file (record { page = p; row = 0 }) is (λ here page is. absurd
    (cc (is)))
    (λ e page is. let same : EndOfPages ≡ e = cc (is) in (p, rw same page))
proper_at with_received file (p, Some s) [] is = by_page file (record { page = p; row = 0 }) is (λ here page is.
    absurd (in_strip_proper here.form p s (strip_bytes here.endian file here.offset s) is))
    (λ e page is. let same : EndOfPages ≡ e = cc (is) in (p, rw same page))
proper_at with_received file at (note ∷ notes) (to, step, rest) = proper_at with_received file to notes rest

count_is : (file : List ℕ) (p : ℕ) → read_page file (record { page = p; row = 0 }) ≡ Err EndOfPages
    → p ≡ pages_to file EndOfPages
count_is file p at = let (head, is_head, none, count) = proper_after file p at in rw (is_head, pages_to) count

pub end_is : (with_received : Bool) (file : List ℕ) (items : List RowItem) (notes : List (List Note)) (end : End)
    → AreItems file items end → AreFrom (IsNoted with_received file) (0, None) notes end
    → IsReportedEnd file end (pages_to file end) (fault_and_place end)
end_is with_received file items notes EndOfPages are noted =
    let at = proper_at with_received file (0, None) notes noted in
    (subst (λ p. read_page file (record { page = p; row = 0 }) ≡ Err EndOfPages) (count_is file at.0 at.1) at.1, refl)
end_is with_received file items notes (Fault p r cause) are noted = (refl, refl)
end_is with_received file items notes Outside are noted = absurd (never_outside file items are)

module _ (by_place : AreBitsByIndex) (lines_read : LinesAreRead) (chains : FilesHaveOneChain)
    (forms : FormsAreWhole) where
  report_is : (with_received : Bool) (file : List ℕ) (report : Report) → read_report with_received file
      ≡ parts_of report → IsReport with_received file report
  report_is with_received file report e =
      let all = read_rows file in
      let notes = read_notes with_received file in
      let are = rows_are by_place lines_read chains forms file (first_at 0 0) in
      let noted = all_are chains forms with_received file (noted_is with_received file) in
      let found = agree by_place lines_read chains forms with_received file (0, None) notes.items notes.end noted in
      let same = two_of (files_have_one_items by_place lines_read chains forms file) all.items found.0 all.end notes.end
      are found.1 in
      let noted_so = subst (AreFrom (IsNoted with_received file) (0, None) notes.items) (sym same.1) noted in
      let pages : pages_to file all.end ≡ report.pages = ap (λ (r : ReportRead). r.pages) e in
      let fault : fault_and_place all.end ≡ report.fault = ap (λ (r : ReportRead). r.fault) e in
      record {
        items = all.items;
        end = all.end;
        read = are;
        rows_are = sym (ap (λ (r : ReportRead). r.rows) e);
        end_is = subst (λ f. IsReportedEnd file all.end report.pages f) fault
            (subst (λ n. IsReportedEnd file all.end n (fault_and_place all.end)) pages
            (end_is with_received file all.items notes.items all.end are noted_so));
        notes = notes.items;
        noted = noted_so;
        notes_are = sym (ap (λ (r : ReportRead). r.notes) e);
      }

  -- and what is defined is reported
  single_noted : (with_received : Bool) (file : List ℕ) (at : Next) → IsSingle (IsNoted with_received file at)
  single_noted with_received file (p, strip) =
      single_on_page (read_page file (record { page = p; row = 0 }))
      (λ here (step : NextItem (List Note) Next). step ≡ noted_on with_received file p strip here) ends_as
      (λ here x y first second. first ∙ sym second)

  end_of : (file : List ℕ) (end : End) (pages : ℕ) (fault : Option (Place × Cause))
      → IsReportedEnd file end pages fault → (pages_to file end ≡ pages) × (fault_and_place end ≡ fault)
  end_of file EndOfPages pages fault is = (sym (count_is file pages is.0), sym is.1)
  end_of file (Fault p r cause) pages fault is = (sym is.0, sym is.1)
  end_of file Outside pages fault is = absurd is

  report_of : (with_received : Bool) (file : List ℕ) (report : Report) → IsReport with_received file report
      → read_report with_received file ≡ parts_of report
  report_of with_received file report is =
      let all = read_rows file in
      let notes = read_notes with_received file in
      let rows = two_of (files_have_one_items by_place lines_read chains forms file) all.items is.items all.end is.end
      (rows_are by_place lines_read chains forms file (first_at 0 0)) is.read in
      let noted = single_from (IsNoted with_received file) (single_noted with_received file) (0, None) notes.items
      is.notes notes.end is.end
      (all_are chains forms with_received file (noted_is with_received file)) is.noted in
      let ends = end_of file is.end report.pages report.fault is.end_is in
      parts (ap (flat_map (λ (own : List Note). own)) noted.0 ∙ sym is.notes_are)
      (ap (pages_to file) rows.1 ∙ ends.0)
      (ap (λ (l : List RowItem). length l) rows.0 ∙ sym is.rows_are) (ap fault_and_place rows.1 ∙ ends.1)
    where
      parts : {a b : List Note} {c d e f : ℕ} {g h : Option (Place × Cause)} → a ≡ b → c ≡ d → e ≡ f → g ≡ h
          → ◌≡◌ {A = ReportRead} (record { notes = a; pages = c; rows = e; fault = g })
          (record { notes = b; pages = d; rows = f; fault = h })
      parts first second third fourth = cc (first, second, third, fourth)

  pub reports_graph : ReportsAreReadByAFunction
  reports_graph with_received file report =
      (report_of with_received file report, report_is with_received file report)
