-- A file of coded strips has the rows and the forms of the pages that it was written of.
use Rattle.std.proofs.lemmas.Grind.{common_steps}
use Rattle.std.proofs.Common.{◌≡◌, ◌≢◌, true, ℕ, zero, suc, ◌+◌, ◌*◌, ◌<◌, ◌≤◌, List, [], ◌∷◌, ◌++◌, length, map}
use Rattle.std.proofs.Common.{take, drop}
use Rattle.std.proofs.Common.{refl, sym, ap, ◌∙◌, subst, arith, length-take, length-drop}
use Rattle.std.specs.Prelude.{All}
use Rattle.std.specs.List.{AllZip, range_with_len}
use Rattle.std.specs.Option.{ForSome}
use Rattle.std.proofs.lemmas.List.FromFn.{length-map-range_with_len}
use Rattle.std.proofs.lemmas.List.{drop-drop, drop_all, take-append-drop, length-map}
use Rattle.std.proofs.lemmas.List.Elements.{All-take, All-drop, All-nil, All-cons, All-head, All-tail}
use Rattle.fax_bits.specs.declared.Colour.{Colour}
use Rattle.fax_page.specs.declared.Coding.{Coding}
use Rattle.fax_page.specs.declared.Coding.TheVariants.{Mmr}
use Rattle.fax_page.specs.laws.Strips.{AreRowsOf, CodedStripsAreRead}
use Rattle.fax_files.specs.declared.PageForm.{PageForm}
use Rattle.fax_files.specs.views.Page.{IsPageForm}
use Rattle.fax_files.specs.Page.{strip_form}
use Rattle.fax_files.specs.laws.TiffFiles.{joined, IsWritable, AreWritable, HoldStripRows}
use Rattle.fax_files.specs.laws.Pbm.{AreOfWidth}
use Rattle.fax_walk.specs.declared.options.Options.{Options}
use Rattle.fax_walk.specs.Converted.{SourcePage, written_page}
use Rattle.fax_walk.specs.code.StripsWriter.{coded_of, rows_of_strip}
use Rattle.fax_walk.specs.laws.WrittenFiles.{HoldsPageRows, IsWritableSource, written_pages, WrittenFilesAreWalked}
use Rattle.fax_walk.specs.laws.WrittenFiles.{CodedFilesAreWalked}
use Rattle.fax_walk.proofs.OpenPageLemmas.{whole_of}

-- strips of enough rows, from strip s on, are all rows that are left
rows_joined : (form : PageForm) (s n : ℕ) (rows : List (List Colour)) → length rows ≤ (s + n) * form.rows_per_strip
    → drop (s * form.rows_per_strip) rows ≡ joined (map (rows_of_strip form rows) (range_with_len s n))
rows_joined form s zero rows within = drop_all (s * form.rows_per_strip) rows (omega arith)
rows_joined form s (suc n) rows within =
    let in_strip = form.rows_per_strip in
    let place : s * in_strip + in_strip ≡ (s + 1) * in_strip = omega arith in
    sym (take-append-drop in_strip (drop (s * in_strip) rows))
    ∙ ap (λ (l : List (List Colour)). rows_of_strip form rows s ++ l)
    (drop-drop in_strip (s * in_strip) rows ∙ ap (λ (i : ℕ). drop i rows) place
    ∙ rows_joined form (s + 1) n rows (omega arith))

all_wide : (width : ℕ) (rows : List (List Colour)) → AreOfWidth width rows → All (λ row. length row ≡ width) rows
all_wide width [] are = All-nil (λ row. length row ≡ width)
all_wide width (row ∷ rows) are = All-cons (λ row. length row ≡ width) row rows are.0 (all_wide width rows are.1)

module _ (law : CodedStripsAreRead) (form : PageForm) (limits : IsPageForm form) (k : ℕ) where
  abbrev in_strip : ℕ
  in_strip = form.rows_per_strip

  -- coded strips hold their rows
  holds_from : (rows : List (List Colour)) → length rows ≡ form.rows → All (λ row. length row ≡ form.width) rows
      → (s n : ℕ)
      → s + n ≡ form.strips
      → HoldStripRows form s (map (coded_of form k rows) (range_with_len s n))
      (map (rows_of_strip form rows) (range_with_len s n))
  holds_from rows count wide s zero strips = tt
  holds_from rows count wide s (suc n) strips =
      let before : s * in_strip < form.rows = (whole_of form limits).needed s (omega arith) in
      let some = limits.some_rows_per_strip in
      let remaining = drop (s * in_strip) rows in
      let here : length (take in_strip remaining) ≡ (strip_form form s).rows =
      omega (arith, length-take in_strip remaining, length-drop (s * in_strip) rows) in
      let widths = All-take (λ row. length row ≡ form.width) in_strip remaining
      (All-drop (λ row. length row ≡ form.width) (s * in_strip) rows wide)
      in
      let shape : AreRowsOf (strip_form form s) (take in_strip remaining) = record { count = here; widths = widths }
      in (
        law (strip_form form s) k (take in_strip remaining)
            (record {
              some_pels = limits.some_width;
              short_rows = omega (arith, limits.width);
              some_rows = omega arith;
              few_rows = omega (arith, limits.rows);
              aligned = limits.aligned;
            }) shape,
        holds_from rows count wide (s + 1) n (omega arith),
      )

module _ (law : CodedStripsAreRead) (options : Options) (coding : Coding)
    (some_strip : ForSome options.strip (λ rows. 0 < rows))
    (has_eols : options.aligned ≡ true → coding ≢ Mmr) where
  module _ (source : SourcePage) (w : IsWritableSource source) where
    abbrev form : PageForm
    form = (written_page options coding source).form

    form_limits : IsPageForm form
    form_limits = grind (arith, common_steps)

    pub page_writable : IsWritable (written_page options coding source)
    page_writable = grind (arith, common_steps, length-map-range_with_len)

    pub page_holds : HoldsPageRows (written_page options coding source) source.image.rows
    page_holds =
        let rows = source.image.rows in
        let none : 0 ≡ 0 * form.rows_per_strip = omega arith in (
          map (rows_of_strip form rows) (range_with_len 0 form.strips),
          holds_from law form form_limits options.k rows refl (all_wide source.image.width rows w.image.rows) 0
              form.strips (omega arith),
          ap (λ (i : ℕ). drop i rows) none ∙ rows_joined form 0 form.strips rows
              (subst (λ (n : ℕ). length rows ≤ n * form.rows_per_strip) (omega arith)
              (whole_of form form_limits).enough),
        )

  pub all_writable : (pages : List SourcePage) → All IsWritableSource pages
      → AreWritable (written_pages options coding pages)
  all_writable [] are = tt
  all_writable (source ∷ pages) are = (
    page_writable source (All-head IsWritableSource source pages are),
    all_writable pages (All-tail IsWritableSource source pages are),
  )

  all_hold : (pages : List SourcePage) → All IsWritableSource pages
      → AllZip HoldsPageRows (written_pages options coding pages) (map (λ source. source.image.rows) pages)
  all_hold [] are = tt
  all_hold (source ∷ pages) are = (
    page_holds source (All-head IsWritableSource source pages are),
    all_hold pages (All-tail IsWritableSource source pages are),
  )

-- the law of files of coded strips
pub coded_files_are_walked : CodedStripsAreRead → WrittenFilesAreWalked → CodedFilesAreWalked
coded_files_are_walked strips files options coding pages some_strip has_eols some few are short =
    let count = length-map pages (written_page options coding) in
    files (written_pages options coding pages) (map (λ source. source.image.rows) pages) (omega arith) (omega arith)
    (all_writable strips options coding some_strip has_eols pages are)
    (all_hold strips options coding some_strip has_eols pages are) short
