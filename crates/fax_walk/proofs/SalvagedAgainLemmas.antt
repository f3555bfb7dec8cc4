-- A salvaged file is read back, and salvaged again it is the same file.
use Rattle.std.proofs.Common.{◌≡◌, ◌≢◌, ℕ, zero, suc, ◌+◌, ◌<◌, ◌≤◌, Bool, true, false, List, [], ◌∷◌, ◌++◌, length}
use Rattle.std.proofs.Common.{map, drop, min, Option, Some, None, Ok, refl, sym, ap, ◌∙◌, subst, arith}
use Rattle.std.specs.Prelude.{All, flat_map, max, slice_index_or}
use Rattle.std.specs.List.{AllZip}
use Rattle.std.specs.Option.{ForSome}
use Rattle.std.proofs.Math.Nat.{zero-max}
use Rattle.std.proofs.Common.{inl, inr}
use Rattle.std.specs.Prelude.{◌^◌, ◌==◌, ◌&&◌, if◌then◌else◌}
use Rattle.std.proofs.lemmas.Bool.{cases_lt}
use Rattle.std.proofs.lemmas.List.{drop-drop, length-map, map-append}
use Rattle.std.proofs.lemmas.List.Elements.{All-head, All-tail}
use Rattle.fax_bits.specs.Bits.{bits}
use Rattle.fax_bits.specs.declared.Colour.{Colour}
use Rattle.fax_page.specs.Lines.{white_row}
use Rattle.fax_page.specs.declared.StripForm.{StripForm}
use Rattle.fax_page.specs.Salvage.{IsSalvagedStrip, found}
use Rattle.fax_page.specs.Strip.{read_strip}
use Rattle.fax_page.specs.laws.Lines.{AreLines, IsStrip, LinesAreReadByAFunction}
use Rattle.fax_page.specs.declared.Coding.{Coding}
use Rattle.fax_page.specs.declared.Coding.TheVariants.{Mh, Mr, Mmr}
use Rattle.fax_page.specs.laws.Salvage.{FindsWholeStrips, SalvagesStripsOneWay}
use Rattle.fax_page.specs.laws.Strips.{CodedStripsAreRead}
use Rattle.fax_files.specs.declared.Endian.TheVariants.{Little}
use Rattle.fax_files.specs.declared.PageForm.{PageForm}
use Rattle.fax_files.specs.declared.bad_rows.BadRows.{BadRows}
use Rattle.fax_files.specs.BadRows.{received}
use Rattle.fax_files.specs.Directory.{max_file, read_chain}
use Rattle.fax_files.specs.Layout.{WrittenPage, file_of}
use Rattle.fax_files.specs.Page.{strip_form}
use Rattle.fax_files.specs.laws.TiffFiles.{FormsAreWithinLimits, HoldStripRows, IsReadAs, IsReadAt, joined, said}
use Rattle.fax_files.specs.laws.TiffFiles.{WrittenFilesAreRead}
use Rattle.fax_walk.specs.declared.options.Options.{Options}
use Rattle.fax_walk.specs.declared.options.Target.{Target}
use Rattle.fax_walk.specs.declared.options.Target.TheVariants as To
use Rattle.fax_walk.specs.Pages.{FilePage}
use Rattle.fax_walk.specs.Converted.{SourcePage, most_pages, target_bytes, written_page}
use Rattle.fax_walk.specs.Salvaged.{AreRowsOfPage, AreStripsLeft, PageRow, on_page, strip_left}
use Rattle.fax_walk.specs.SalvagedFile.{AreSalvagedPages, IsSalvagedPage, IsSalvagedSource, bad_rows}
use Rattle.fax_walk.specs.SalvagedFile.{longest_from, longest_lost, count_lost, on_paper, salvaged_page}
use Rattle.fax_walk.specs.laws.SalvagedFiles.{SalvagedFilesStay}
use Rattle.fax_walk.specs.laws.WrittenFiles.{HoldsPageRows, IsWritableSource, written_pages}
use Rattle.fax_walk.proofs.CodedLemmas.{all_writable, page_holds, page_writable}
use Rattle.fax_walk.proofs.RowLawLemmas.{LinesAreRead}
use Rattle.fax_walk.proofs.SalvagedShapeLemmas.{source_writable}

-- rows that are all found
abbrev pub founds : List (List Colour) → List PageRow
founds rows = map (λ row. Ok row) rows

pub found_paper : (width : ℕ) (rows : List (List Colour)) → map (on_paper width) (founds rows) ≡ rows
found_paper width [] = refl
found_paper width (row ∷ rows) = ap (λ (l : List (List Colour)). row ∷ l) (found_paper width rows)

pub none_lost : (rows : List (List Colour)) → count_lost (founds rows) ≡ 0
none_lost [] = refl
none_lost (row ∷ rows) = none_lost rows

pub none_longest : (rows : List (List Colour)) → longest_lost (founds rows) ≡ 0
none_longest [] = refl
none_longest (row ∷ rows) = zero-max (longest_from 0 (founds rows)) ∙ none_longest rows

founds_joined : (lists : List (List (List Colour)))
    → founds (joined lists) ≡ flat_map (λ rows. rows) (map founds lists)
founds_joined [] = refl
founds_joined (rows ∷ lists) =
    map-append (λ row. Ok row) rows (joined lists) ∙ ap (λ (l : List PageRow). founds rows ++ l) (founds_joined lists)

-- a test that cannot hold
not_both : (test : Bool) (bad : BadRows) → (if test && false then None else (Some bad)) ≡ Some bad
not_both true bad = refl
not_both false bad = refl

-- what a page says that is written so is said again
said_again : (bad : Option BadRows) → ForSome bad (λ bad. (bad.count < 2 ^ 32) × (bad.consecutive < 2 ^ 32))
    → bad_rows 0 0 (said bad) ≡ bad
said_again None short = refl
said_again (Some bad) short =
    let short = short bad refl in
    let count : min 4294967295 (0 + bad.count) ≡ bad.count = omega (arith, short.0) in
    let most : max 0 bad.consecutive ≡ bad.consecutive = zero-max bad.consecutive in
    let consecutive : min 4294967295 (max 0 bad.consecutive) ≡ bad.consecutive = omega (arith, short.1, most) in
    rw (count, consecutive) (not_both (bad.count == 0) bad)

-- a strip that is read wholly is found wholly
pub strip_found : LinesAreReadByAFunction → FindsWholeStrips → (form : StripForm) (b : List Bool)
    (rows : List (List Colour))
    → IsStrip form b rows None → IsSalvagedStrip form b (map (λ row. found row) rows)
strip_found lines finds form b rows (rows_are, end_is) =
    let strip = read_strip form b in
    let are : AreLines form 0 (white_row form.width) b strip.rows strip.end strip.remaining =
    (lines form.rows form 0 (white_row form.width) b strip.rows strip.end strip.remaining (omega arith)).1 refl in
    let whole : AreLines form 0 (white_row form.width) b rows None strip.remaining = rw (rows_are, end_is) at are in
    finds.all_found form 0 (white_row form.width) b rows strip.remaining whole

-- where no colours are exchanged
founds_shown : (form : PageForm) → form.exchanged ≡ false → (rows : List (List Colour))
    → founds rows ≡ map (on_page form true) (map (λ row. found row) rows)
founds_shown form same [] = refl
founds_shown form same (row ∷ rows) = rw same (ap (λ (l : List PageRow). Ok row ∷ l) (founds_shown form same rows))

-- the first of those that are left
first_left : (strips : List (List ℕ)) (s : ℕ) (strip : List ℕ) (later : List (List ℕ)) → drop s strips ≡ strip ∷ later
    → slice_index_or strips s [] ≡ strip
first_left [] zero strip later is = cc
first_left [] (suc s) strip later is = cc
first_left (first ∷ strips) zero strip later is = cc
first_left (first ∷ strips) (suc s) strip later is = first_left strips s strip later is

module _ (lines : LinesAreReadByAFunction) (finds : FindsWholeStrips) (file : List ℕ) (q : ℕ) (written : WrittenPage)
    (read : IsReadAt file q written) (same : written.form.exchanged ≡ false) where
  abbrev here : FilePage
  here = record { endian = Little; offset = q; form = written.form }

  strips_again : (s : ℕ) (strips : List (List ℕ)) (lists : List (List (List Colour))) → drop s written.strips ≡ strips
      → s + length strips ≡ written.form.strips → HoldStripRows written.form s strips lists
      → AreStripsLeft file here s (map founds lists)
  strips_again s [] [] at count holds = omega (arith, count)
  strips_again s [] (rows ∷ lists) at count holds = absurd holds
  strips_again s (strip ∷ strips) [] at count holds = absurd holds
  strips_again s (strip ∷ strips) (rows ∷ lists) at count (is, later) =
      let less : s < written.form.strips = omega (arith, count) in
      let its = read.strips s less ∙ ap (λ (l : List ℕ). Some l) (first_left written.strips s strip strips at) in
      let remaining : strip_left here file s ≡ (strip, true) = rw (its, strip_left) refl in
      let own = map (λ row. found row) rows in
      let found_is = strip_found lines finds (strip_form written.form s) (bits written.form.order strip) rows is in
      let next : drop (s + 1) written.strips ≡ strips =
      sym (drop-drop 1 s written.strips) ∙ ap (λ (l : List (List ℕ)). drop 1 l) at in (
        less,
        (
          own,
          subst (λ r. IsSalvagedStrip (strip_form written.form s) (bits written.form.order r.0) own) (sym remaining)
              found_is,
          subst (λ r. founds rows ≡ map (on_page written.form r.1) own) (sym remaining)
              (founds_shown written.form same rows),
        ),
        strips_again (s + 1) strips lists next (omega (arith, count)) later,
      )

  rows_again : length written.strips ≡ written.form.strips → (rows : List (List Colour)) → HoldsPageRows written rows
      → AreRowsOfPage file here (founds rows)
  rows_again count rows (lists, holds, rows_are) = (
    map founds lists,
    strips_again 0 written.strips lists refl (omega (arith, count)) holds,
    ap founds rows_are ∙ founds_joined lists,
  )

module _ (lines : LinesAreReadByAFunction) (finds : FindsWholeStrips) (law : CodedStripsAreRead) (options : Options)
    (coding : Coding) (some_strip : ForSome options.strip (λ rows. 0 < rows))
    (has_eols : options.aligned ≡ true → coding ≢ Mmr) (file : List ℕ) where
  -- a page that is read as it was written
  page_again : (q : ℕ) (source : SourcePage) → IsWritableSource source
      → IsReadAt file q (written_page options coding source)
      → IsSalvagedPage Little file q (Ok (written_page options coding source).form) (source ∷ [])
  page_again q source w read =
      let written = written_page options coding source in
      let rows = source.image.rows in
      let writable = page_writable law options coding some_strip has_eols source w in
      let holds = page_holds law options coding some_strip has_eols source w in
      let same : salvaged_page written.form (received Little file q) (founds rows) ≡ source =
      rw (found_paper source.image.width rows, none_lost rows, none_longest rows, read.bad, said_again source.bad w.bad)
      refl in (
        founds rows,
        rows_again lines finds file q written read refl writable.strips rows holds,
        ap (λ (p : SourcePage). p ∷ []) (sym same),
      )

  pages_again : (offsets : List ℕ) (pages : List SourcePage) → All IsWritableSource pages
      → AllZip (IsReadAt file) offsets (written_pages options coding pages)
      → AreSalvagedPages Little file offsets pages
  pages_again [] [] are read = refl
  pages_again [] (source ∷ pages) are read = absurd read
  pages_again (q ∷ offsets) [] are read = absurd read
  pages_again (q ∷ offsets) (source ∷ pages) are read = (
    source ∷ [],
    pages,
    subst (λ f. IsSalvagedPage Little file q f (source ∷ [])) (sym read.0.form)
        (page_again q source (All-head IsWritableSource source pages are) read.0),
    pages_again offsets pages (All-tail IsWritableSource source pages are) read.1,
    refl,
  )

  source_again : (pages : List SourcePage) → All IsWritableSource pages
      → IsReadAs file (written_pages options coding pages) → IsSalvagedSource file pages
  source_again pages are read =
      let its = pages_again read.offsets pages are read.read in
      let by_chain : AreSalvagedPages Little file (read_chain read.head file).offsets pages = rw read.chain its in
      let all : AreSalvagedPages read.head.endian file (read_chain read.head file).offsets pages =
      subst (λ e. AreSalvagedPages e file (read_chain read.head file).offsets pages) (sym read.little) by_chain in
      rw read.head_is all

module _ (lines : LinesAreReadByAFunction) (finds : FindsWholeStrips) (law : CodedStripsAreRead)
    (files : WrittenFilesAreRead) (options : Options) (pages : List SourcePage) (are : All IsWritableSource pages)
    (some : 1 ≤ length pages) (output : List ℕ) where
  in_coding : (coding : Coding) → ForSome options.strip (λ rows. 0 < rows) → (options.aligned ≡ true → coding ≢ Mmr)
      → output ≡ file_of (written_pages options coding pages) → length pages ≤ most_pages
      → length output ≤ max_file → IsSalvagedSource output pages
  in_coding coding some_strip has_eols output_is few short =
      let count = length-map pages (written_page options coding) in
      let fits : length (file_of (written_pages options coding pages)) ≤ max_file = rw output_is at short in
      let read = files (written_pages options coding pages) (omega (arith, count, some)) (omega (arith, count, few))
      (all_writable law options coding some_strip has_eols pages are) fits in
      source_again lines finds law options coding some_strip has_eols output pages are (rw (← output_is) at read)

  by_target : (target : Target) → options.target ≡ target → target ≢ To.Pbm
      → output ≡ target_bytes target options pages → length pages ≤ most_pages → length output ≤ max_file
      → IsSalvagedSource output pages
  by_target To.Pbm target_is other output_is few short = absurd (other refl)
  by_target To.Mh target_is other output_is few short =
      in_coding Mh options.some_strip (λ aligned same. cc) output_is few short
  by_target To.Mr target_is other output_is few short =
      in_coding Mr options.some_strip (λ aligned same. cc) output_is few short
  by_target To.Mmr target_is other output_is few short =
      in_coding Mmr options.some_strip (λ aligned same. options.aligned_is_no_mmr aligned target_is) output_is few
      short

pub salvaged_again : LinesAreReadByAFunction → FindsWholeStrips → CodedStripsAreRead → WrittenFilesAreRead
    → SalvagesStripsOneWay → LinesAreRead → FormsAreWithinLimits → SalvagedFilesStay
salvaged_again lines finds law files salvages lines_read within_limits file options output are_bytes other salvaged =
    let pages = salvaged.pages in
    let are = source_writable salvages lines_read within_limits file are_bytes pages salvaged.source in
    let few : length pages ≤ most_pages = elim (cases_lt most_pages (length pages)) [
      | inl more ↦ absurd (salvaged.fits (inr (other, more)))
      | inr less ↦ less
    ] in
    let short : length output ≤ max_file = elim (cases_lt max_file (length output)) [
      | inl more ↦ absurd (salvaged.fits (inl more))
      | inr less ↦ less
    ] in
    record {
      pages = pages;
      source = by_target lines finds law files options pages are salvaged.some output options.target refl other
          salvaged.output_is few short;
      some = salvaged.some;
      output_is = salvaged.output_is;
      fits = salvaged.fits;
    }
