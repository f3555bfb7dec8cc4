-- The rows of a page on paper: as many as its form says, each of its width.
use Rattle.std.proofs.Common.{◌≡◌, ℕ, zero, suc, ◌+◌, ◌-◌, ◌*◌, ◌<◌, Bool, true, false, List, [], ◌∷◌, length}
use Rattle.std.proofs.Common.{map, replicate, Option, Some, None, Result, Ok, Err, refl, sym, ap, ◌∙◌, subst, arith}
use Rattle.std.proofs.Common.{length-append}
use Rattle.std.specs.Prelude.{◌^◌, All, MatchOption, MatchResult, flat_map, if◌then◌else◌}
use Rattle.std.specs.Option.{ForSome}
use Rattle.std.proofs.lemmas.List.{length-map, length-replicate, map-append}
use Rattle.std.proofs.lemmas.List.Elements.{All-append, All-cons, All-nil}
use Rattle.fax_bits.specs.Bits.{bits}
use Rattle.fax_bits.specs.declared.Colour.{Colour}
use Rattle.fax_bits.specs.declared.Colour.TheVariants.{White}
use Rattle.fax_page.specs.Lines.{white_row}
use Rattle.fax_page.specs.declared.StripFault.{StripFault}
use Rattle.fax_page.specs.declared.StripForm.{StripForm}
use Rattle.fax_page.specs.Salvage.{AreSalvaged, SalvagedRow, found, lost, resync_point, unended}
use Rattle.fax_page.specs.declared.StripFault.TheVariants.{MissingEol}
use Rattle.fax_page.specs.laws.Salvage.{SalvagesStripsOneWay}
use Rattle.fax_files.specs.declared.Endian.{Endian}
use Rattle.fax_files.specs.declared.FileFault.{FileFault}
use Rattle.fax_files.specs.declared.PageForm.{PageForm}
use Rattle.fax_files.specs.declared.bad_rows.BadRows.{BadRows}
use Rattle.fax_files.specs.declared.bad_rows.Received.{Received}
use Rattle.fax_files.specs.Directory.{Header, header, read_chain}
use Rattle.fax_files.specs.Page.{page, strip_form}
use Rattle.fax_files.specs.laws.Pbm.{AreOfWidth}
use Rattle.fax_files.specs.laws.TiffFiles.{FormsAreWithinLimits, IsWholeForm}
use Rattle.fax_files.specs.views.Page.{IsPageForm}
use Rattle.fax_files.specs.views.Tiff.{received_of}
use Rattle.fax_walk.specs.Pages.{FilePage}
use Rattle.fax_walk.specs.Items.{exchanged}
use Rattle.fax_walk.specs.Converted.{SourcePage}
use Rattle.fax_walk.specs.Salvaged.{AreRowsOfPage, AreStripsLeft, PageRow, on_page, strip_left}
use Rattle.fax_walk.specs.SalvagedFile.{AreSalvagedPages, IsSalvagedPage, IsSalvagedSource, bad_rows}
use Rattle.fax_walk.specs.SalvagedFile.{longest_lost, count_lost, on_paper, salvaged_page}
use Rattle.fax_walk.specs.code.Output.{form_sheet, page_of}
use Rattle.fax_walk.specs.laws.WrittenFiles.{IsWritableSource}
use Rattle.fax_walk.proofs.OnPaperLemmas.{widths_both}
use Rattle.fax_walk.proofs.OpenPageLemmas.{whole_of}
use Rattle.fax_walk.proofs.RowLawLemmas.{LinesAreRead}
use Rattle.fax_walk.proofs.SourcePageLemmas.{exchanged_length}

-- a row of a strip that is found, and one that is lost, on paper
found_paper : (form : PageForm) (whole : Bool) (row : List Colour)
    → on_paper form.width (on_page form whole (found row)) ≡ exchanged form row
found_paper form true row = refl
found_paper form false row = refl

lost_paper : (form : PageForm) (whole : Bool) (fault : StripFault)
    → length (on_paper form.width (on_page form whole (lost fault))) ≡ form.width
lost_paper form true fault = length-replicate form.width White
lost_paper form false fault = length-replicate form.width White

unended_paper : (form : PageForm) (whole : Bool) (row : List Colour)
    → length (on_paper form.width (on_page form whole (unended row))) ≡ form.width
unended_paper form true row = length-replicate form.width White
unended_paper form false row = length-replicate form.width White

-- the rows of a strip on paper have the width of the page
abbrev ArePaperOf : PageForm → Bool → List SalvagedRow → Type 0
ArePaperOf form whole own = AreOfWidth form.width (map (on_paper form.width) (map (on_page form whole) own))

all_lost : (form : PageForm) (whole : Bool) (n : ℕ) (fault : StripFault)
    → ArePaperOf form whole (replicate n (lost fault))
all_lost form whole zero fault = tt
all_lost form whole (suc n) fault = (lost_paper form whole fault, all_lost form whole n fault)

resumed : (form : PageForm) (whole : Bool) (n : ℕ) (fault : StripFault) (own : List SalvagedRow)
    (After : List Bool → Type 0) → ((b : List Bool) → After b → ArePaperOf form whole own)
    → (answer : Option (List Bool)) → MatchOption answer (own ≡ replicate n (lost fault)) After
    → ArePaperOf form whole own
resumed form whole n fault own After later None same =
    subst (ArePaperOf form whole) (sym same) (all_lost form whole n fault)
resumed form whole n fault own After later (Some b) is = later b is

module _ (lines_read : LinesAreRead) (form : PageForm) (s : ℕ) (whole : Bool) where
  abbrev strip : StripForm
  strip = strip_form form s

  strip_wide : (own : List SalvagedRow) (i : ℕ) (before : Option StripFault) (reference : List Colour) (b : List Bool)
      → length reference ≡ form.width → AreSalvaged strip i before reference b own → ArePaperOf form whole own
  strip_wide [] i before reference b wide are = tt
  strip_wide (found row ∷ own) i before reference b wide (rest, less, read, ends, later) =
      let row_wide = (lines_read strip i reference).width b row rest wide read.line in (
        ap length (found_paper form whole row) ∙ exchanged_length form row ∙ row_wide,
        strip_wide own (i + 1) None row rest row_wide later,
      )
  strip_wide (lost fault ∷ own) i before reference b wide (less, because, (from, is, resumes)) = (
    lost_paper form whole fault,
    resumed form whole (strip.rows - (i + 1)) fault own
        (λ upcoming. AreSalvaged strip (i + 1) (Some fault) (white_row strip.width) upcoming own)
        (λ upcoming later. strip_wide own (i + 1) (Some fault) (white_row strip.width) upcoming
        (length-replicate form.width White) later)
        (resync_point strip.coding from) resumes,
  )
  strip_wide (unended row ∷ own) i before reference b wide (rest, read, needs, next, (from, is, resumes)) = (
    unended_paper form whole row,
    resumed form whole (strip.rows - (i + 1)) MissingEol own
        (λ upcoming. AreSalvaged strip (i + 1) (Some MissingEol) (white_row strip.width) upcoming own)
        (λ upcoming later. strip_wide own (i + 1) (Some MissingEol) (white_row strip.width) upcoming
        (length-replicate form.width White) later)
        (resync_point strip.coding from) resumes,
  )

-- the rows of the strips from one on
abbrev all_rows : List (List PageRow) → List PageRow
all_rows strips = flat_map (λ rows. rows) strips

strips_wide : LinesAreRead → (file : List ℕ) (here : FilePage) (s : ℕ) (strips : List (List PageRow))
    → AreStripsLeft file here s strips
    → AreOfWidth here.form.width (map (on_paper here.form.width) (all_rows strips))
strips_wide lines_read file here s [] are = tt
strips_wide lines_read file here s (rows ∷ strips) (less, (own, is, rows_are), later) =
    let width = here.form.width in
    let first : AreOfWidth width (map (on_paper width) rows) =
    rw rows_are
    (strip_wide lines_read here.form s (strip_left here file s).1 own 0 None (white_row width)
    (bits here.form.order (strip_left here file s).0) (length-replicate width White) is) in
    subst (AreOfWidth width) (sym (map-append (on_paper width) rows (all_rows strips)))
    (widths_both width (map (on_paper width) rows) (map (on_paper width) (all_rows strips)) first
    (strips_wide lines_read file here (s + 1) strips later))

pub strips_count : SalvagesStripsOneWay → (file : List ℕ) (here : FilePage) → IsWholeForm here.form → (s : ℕ)
    (strips : List (List PageRow)) → AreStripsLeft file here s strips
    → length (all_rows strips) ≡ here.form.rows - s * here.form.rows_per_strip
strips_count salvages file here whole s [] are =
    let same = ap (λ n. n * here.form.rows_per_strip) are in omega (arith, same, whole.enough)
strips_count salvages file here whole s (rows ∷ strips) (less, (own, is, rows_are), later) =
    let one = salvages (strip_form here.form s) 0 None (white_row here.form.width)
    (bits here.form.order (strip_left here file s).0) (omega arith) in
    let same : length rows ≡ length one.rows =
    ap length rows_are ∙ length-map own (on_page here.form (strip_left here file s).1) ∙ ap length (one.one own is) in
    let first : length rows ≡ (strip_form here.form s).rows = omega (arith, same, one.count) in
    let place : (s + 1) * here.form.rows_per_strip ≡ s * here.form.rows_per_strip + here.form.rows_per_strip =
    omega arith in
    omega (
      arith,
      first,
      place,
      length-append rows (all_rows strips),
      strips_count salvages file here whole (s + 1) strips later,
    )

-- bad rows that are said have numbers of 32 bits
said_by : (none : Bool) (bad : BadRows) → (bad.count < 2 ^ 32) × (bad.consecutive < 2 ^ 32)
    → ForSome (if none then None else (Some bad)) (λ bad. (bad.count < 2 ^ 32) × (bad.consecutive < 2 ^ 32))
said_by true bad short = λ x same. cc
said_by false bad short = λ x same.
    let is : bad ≡ x = cc in subst (λ b. (b.count < 2 ^ 32) × (b.consecutive < 2 ^ 32)) is short

said_short : (missing longest : ℕ) (receiver : Received)
    → ForSome (bad_rows missing longest receiver) (λ bad. (bad.count < 2 ^ 32) × (bad.consecutive < 2 ^ 32))
said_short missing longest receiver = said_by _ _ (omega arith, omega arith)

-- a page within the limits can be written
page_writable : (form : PageForm) (rows : List (List Colour)) (bad : Option BadRows) → IsPageForm form
    → length rows ≡ form.rows → AreOfWidth form.width rows
    → ForSome bad (λ bad. (bad.count < 2 ^ 32) × (bad.consecutive < 2 ^ 32))
    → IsWritableSource (page_of (form_sheet form) rows bad)
page_writable form rows bad limits count wide short = grind arith

module _ (salvages : SalvagesStripsOneWay) (lines_read : LinesAreRead) (within_limits : FormsAreWithinLimits)
    (file : List ℕ) (are_bytes : All (λ byte. byte < 256) file) where
  salvaged_writable : (here : FilePage) (rows : List PageRow) (receiver : Received) → IsPageForm here.form
      → AreRowsOfPage file here rows → IsWritableSource (salvaged_page here.form receiver rows)
  salvaged_writable here rows receiver limits (strips, are, rows_are) =
      let width = here.form.width in
      let wide : AreOfWidth width (map (on_paper width) rows) =
      rw rows_are (strips_wide lines_read file here 0 strips are) in
      let all = strips_count salvages file here (whole_of here.form limits) 0 strips are in
      let count : length (map (on_paper width) rows) ≡ here.form.rows =
      omega (arith, length-map rows (on_paper width), ap length rows_are, all) in
      page_writable here.form (map (on_paper width) rows)
      (bad_rows (count_lost rows) (longest_lost rows) receiver) limits count wide
      (said_short (count_lost rows) (longest_lost rows) receiver)

  one_writable : (endian : Endian) (q : ℕ) (fields : Result PageForm FileFault) (pages : List SourcePage)
      → page endian file q ≡ fields → IsSalvagedPage endian file q fields pages → All IsWritableSource pages
  one_writable endian q (Err fault) pages is none = subst (All IsWritableSource) (sym none) (All-nil IsWritableSource)
  one_writable endian q (Ok form) pages is (rows, are, pages_are) =
      let here : FilePage = record { endian = endian; offset = q; form = form } in
      let receiver = received_of (record { endian = endian; file = file; offset = q }) in
      subst (All IsWritableSource) (sym pages_are)
      (All-cons IsWritableSource (salvaged_page form receiver rows) []
      (salvaged_writable here rows receiver (within_limits endian file q form are_bytes is) are)
      (All-nil IsWritableSource))

  all_writable : (endian : Endian) (offsets : List ℕ) (pages : List SourcePage)
      → AreSalvagedPages endian file offsets pages → All IsWritableSource pages
  all_writable endian [] pages none = subst (All IsWritableSource) (sym none) (All-nil IsWritableSource)
  all_writable endian (q ∷ offsets) pages (own, others, is, are, pages_are) =
      subst (All IsWritableSource) (sym pages_are)
      (All-append IsWritableSource own others (one_writable endian q (page endian file q) own refl is)
      (all_writable endian offsets others are))

  by_header : (pages : List SourcePage) (answer : Result Header FileFault)
      → MatchResult answer (λ head. AreSalvagedPages head.endian file (read_chain head file).offsets pages)
      (λ fault. pages ≡ [])
      → All IsWritableSource pages
  by_header pages (Err fault) none = subst (All IsWritableSource) (sym none) (All-nil IsWritableSource)
  by_header pages (Ok head) are = all_writable head.endian (read_chain head file).offsets pages are

  -- the pages of a salvaged file can be written
  pub source_writable : (pages : List SourcePage) → IsSalvagedSource file pages → All IsWritableSource pages
  source_writable pages source = by_header pages (header file) source
