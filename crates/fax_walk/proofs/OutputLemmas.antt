-- An output that is written page by page.
use Rattle.std.proofs.lemmas.Grind.{common_steps}
use Rattle.std.proofs.Common.{◌≡◌, ℕ, suc, ◌+◌, ◌-◌, ◌*◌, ◌<◌, ◌≤◌, inl, List, [], ◌∷◌, ◌++◌, length, map, Option, Some}
use Rattle.std.proofs.Common.{Result, refl, sym}
use Rattle.std.proofs.Common.{ap, ◌∙◌, subst, arith, append_assoc, append-nil, length-append, length-take, length-drop}
use Rattle.std.specs.Prelude.{flat_map, OnOk}
use Rattle.std.proofs.lemmas.List.{length_push, flat_map_more, length-map, map-append}
use Rattle.std.proofs.lemmas.List.Concat.{flat_map-append}
use Rattle.fax_bits.specs.declared.Colour.{Colour}
use Rattle.fax_rows.specs.laws.Packed.{PackingUndoesUnpacking}
use Rattle.fax_rows.specs.Coded.{packed_len, packed_row}
use Rattle.fax_page.specs.declared.Coding.{Coding}
use Rattle.fax_page.specs.views.Writer.{WriterState}
use Rattle.fax_files.specs.declared.PageForm.{PageForm}
use Rattle.fax_files.specs.Pbm.{Image, pbm_of}
use Rattle.fax_files.specs.views.Pbm.{head_bytes}
use Rattle.fax_files.specs.laws.Pbm.{AreOfWidth}
use Rattle.fax_files.specs.declared.bad_rows.BadRows.{BadRows}
use Rattle.fax_files.specs.Layout.{Written, WrittenPage, with_page, with_pages}
use Rattle.fax_files.specs.views.Writing.{empty_file, Writing, with_one_more, length_with, contents}
use Rattle.fax_files.specs.views.Writing.{given_page}
use Rattle.fax_files.specs.Directory.{max_file}
use Rattle.fax_walk.specs.declared.options.Options.{Options}
use Rattle.fax_walk.specs.declared.options.Target.{Target}
use Rattle.fax_walk.specs.declared.options.Target.TheVariants.{Pbm}
use Rattle.fax_walk.specs.declared.open_strips.StripsWriter.{StripsWriter}
use Rattle.fax_walk.specs.declared.page_size.PageSize.{PageSize}
use Rattle.fax_files.specs.laws.TiffFiles.{TotalsAreTold}
use Rattle.fax_walk.specs.Converted.{SourcePage, most_pages, written_page, target_bytes, IsTooLarge}
use Rattle.fax_walk.specs.code.StripsWriter.{HasPutRows, AreInStrip}
use Rattle.fax_walk.specs.code.Output.{Progress, Part, no_rows, with_row, page_of, after, nothing_written, sheet_form}
use Rattle.fax_walk.specs.code.Output.{coding_of}
use Rattle.fax_walk.specs.code.Output.{StaysTooLarge, HasPutImages, HasPages, HasRowsOnPage, HasImageRows}
use Rattle.fax_walk.specs.code.Output.{BecomesTooLarge}

-- what follows where a call was done
pub on_ok : {E : Type 0} {P Q : Type 0} (result : Result (Unit {0}) E) → OnOk result P → (P → Q) → OnOk result Q
on_ok result holds follows = grind arith

-- rows of one width, and one more
pub widths_more : (width : ℕ) (rows : List (List Colour)) (row : List Colour) → AreOfWidth width rows
    → length row ≡ width
    → AreOfWidth width (rows ++ row ∷ [])
widths_more width [] row are is = (is, tt)
widths_more width (first ∷ rows) row are is = (are.0, widths_more width rows row are.1 is)

-- how many bytes rows of one width take
pub rows_length : PackingUndoesUnpacking → (width : ℕ) (rows : List (List Colour)) → AreOfWidth width rows
    → length (flat_map packed_row rows) ≡ length rows * packed_len width
rows_length packs width [] are = omega arith
rows_length packs width (row ∷ rows) are =
    let len : length (packed_row row) ≡ packed_len width = packs.packed_count row ∙ ap packed_len are.0 in
    omega (arith, length-append {A = ℕ}, len, rows_length packs width rows are.1)

-- an image as it is written
abbrev image_bytes : Image → List ℕ
image_bytes image = head_bytes image.width (length image.rows) ++ flat_map packed_row image.rows

-- the images of pages, and what follows them
images_split : (pages more : List SourcePage) (page : SourcePage)
    → pbm_of (map (λ page. page.image) ((pages ++ page ∷ []) ++ more))
    ≡ pbm_of (map (λ page. page.image) pages) ++ (image_bytes page.image ++ pbm_of (map (λ page. page.image) more))
images_split pages more page = grind (arith, append_assoc, map-append, flat_map-append)

-- images are too large in any options
images_too_large : (target : Target) (options : Options) (pages : List SourcePage) → target ≡ Pbm
    → max_file < length (pbm_of (map (λ page. page.image) pages))
    → IsTooLarge target pages (target_bytes target options pages)
images_too_large target options pages is long = subst (λ t. IsTooLarge t pages (target_bytes t options pages)) (sym is)
    (inl long)

module _ (packs : PackingUndoesUnpacking) (at : Progress) (sheet : PageSize) (target : at.options.target ≡ Pbm) where
  abbrev done : List ℕ
  done = pbm_of (map (λ page. page.image) at.pages)

  -- an image for which there is no room makes the output too large
  pub image_too_large : max_file < length done + length (head_bytes sheet.width sheet.rows) + sheet.rows * packed_len
      sheet.width
      → BecomesTooLarge (no_rows at sheet)
  image_too_large large = λ rows bad count widths more.
      let page = page_of sheet rows bad in
      let head = ap (λ (n : ℕ). length (head_bytes sheet.width n)) count in
      let raster : length (flat_map packed_row rows) ≡ sheet.rows * packed_len sheet.width =
      rows_length packs sheet.width rows widths ∙ ap (λ (n : ℕ). n * packed_len sheet.width) count in
      let long : max_file < length (pbm_of (map (λ page. page.image) ((at.pages ++ page ∷ []) ++ more))) =
      omega (
        arith,
        large,
        ap length (images_split at.pages more page),
        length-append done (image_bytes page.image ++ pbm_of (map (λ page. page.image) more)),
        length-append (image_bytes page.image) (pbm_of (map (λ page. page.image) more)),
        length-append (head_bytes sheet.width (length rows)) (flat_map packed_row rows),
        head,
        raster,
      ) in
      images_too_large at.options.target at.options ((at.pages ++ page ∷ []) ++ more) target long

-- an image is started
pub image_started : (at : Progress) (sheet : PageSize) (old new : List ℕ) → HasPutImages old at
    → new ≡ old ++ head_bytes sheet.width sheet.rows
    → length new + sheet.rows * packed_len sheet.width ≤ max_file → HasImageRows new (no_rows at sheet)
image_started at sheet old new has new_is fits = grind (arith, append-nil)

-- a row is put after the others of its image
pub image_row : PackingUndoesUnpacking → (part : Part) (row : List Colour) (old new : List ℕ) → HasImageRows old part
    → length part.rows < part.sheet.rows → length row ≡ part.sheet.width → new ≡ old ++ packed_row row
    → HasImageRows new (with_row part row)
image_row packs part row old new has upcoming width new_is =
    let before = pbm_of (map (λ page. page.image) part.at.pages) in
    let head = head_bytes part.sheet.width part.sheet.rows in
    let rows = flat_map packed_row part.rows in
    let some : 0 < has.remaining = omega (arith, has.left_is) in
    let one : has.remaining ≡ has.remaining - 1 + 1 = omega arith in
    let len : length (packed_row row) ≡ packed_len part.sheet.width = packs.packed_count row ∙ ap packed_len width in
    let size : length new ≡ length old + packed_len part.sheet.width =
    ap length new_is ∙ length-append old (packed_row row) ∙ ap (λ (n : ℕ). length old + n) len in
    let room : has.remaining * packed_len part.sheet.width ≡ (has.remaining - 1) * packed_len part.sheet.width +
    packed_len
    part.sheet.width =
    ap (λ (n : ℕ). n * packed_len part.sheet.width) one ∙ omega arith in
    record {
      target = has.target;
      bytes_are = rw (new_is, has.bytes_are, append_assoc before (head ++ rows) (packed_row row))
          (ap (λ (l : List ℕ). before ++ l) (flat_map_more packed_row head part.rows row));
      remaining = has.remaining - 1;
      left_is = omega (arith, has.left_is, length_push part.rows row);
      fits = omega (arith, has.fits, size, room);
    }

pages_append : (old : Written) (total k : ℕ) (pages more : List WrittenPage)
    → with_pages old total k (pages ++ more) ≡ with_pages (with_pages old total k pages) total (k + length pages) more
unfolding with_pages
pages_append old total k [] more = let here : k ≡ k + 0 = omega arith in
    ap (λ (n : ℕ). with_pages old total n more) here
pages_append old total k (page ∷ pages) more =
    let next = with_page old total k page in
    let there : k + 1 + length pages ≡ k + suc (length pages) = omega arith in
    pages_append next total (k + 1) pages more
    ∙ ap (λ (n : ℕ). with_pages (with_pages next total (k + 1) pages) total n more) there

-- a page more, whatever stands before it
pages_next : (old : Written) (total : ℕ) (pages : List WrittenPage) (page : WrittenPage)
    → with_pages old total 0 (pages ++ page ∷ []) ≡ with_page (with_pages old total 0 pages) total (length pages)
    page
unfolding with_pages
pages_next old total pages page = grind (arith, common_steps, pages_append)

-- a file does not get shorter with a page
page_grows : (old : Written) (total k : ℕ) (page : WrittenPage)
    → length old.bytes ≤ length (with_page old total k page).bytes
unfolding with_page
page_grows old total k page = grind (arith, length-append, length-take, length-drop)

pages_grow : (old : Written) (total k : ℕ) (pages : List WrittenPage)
    → length old.bytes ≤ length (with_pages old total k pages).bytes
unfolding with_pages
pages_grow old total k [] = omega arith
pages_grow old total k (page ∷ pages) =
    grind (
      arith,
      common_steps,
      page_grows,
      pages_grow (with_page old total k page) total (k + 1) pages,
    )

-- a TIFF file of no page yet
pub file_started : (options : Options) (coding : Coding) (writer : Writing)
    → coding_of options.target ≡ Some coding
    → writer ≡ record { written = empty_file; total = most_pages; added = 0 }
    → HasPages coding writer (nothing_written options)
unfolding with_pages
file_started options coding writer coding_is is = grind arith

reached_by : (form : PageForm) (k n : ℕ) (rows : List (List Colour)) (writer : Option WriterState)
    → length rows ≡ form.rows
    → AreInStrip form k n rows writer → form.rows ≤ n * form.rows_per_strip
reached_by form k n rows writer all is = grind arith

-- a page whose rows were all put has all its strips
pub all_strips : (form : PageForm) (k : ℕ) (rows : List (List Colour)) (page : StripsWriter)
    → HasPutRows form k rows page
    → length rows ≡ form.rows
    → length page.done.items ≡ form.strips
all_strips form k rows page put all = grind (arith, reached_by)

-- a page of a TIFF file whose rows were all put
module _ (part : Part) (bad : Option BadRows) (coding : Coding) (writer : Writing) (page : StripsWriter)
    (has : HasRowsOnPage coding writer (Some page) part)
    (all : length part.rows ≡ part.sheet.rows) where
  abbrev options : Options
  options = part.at.options

  abbrev source : SourcePage
  source = page_of part.sheet part.rows bad

  abbrev pages : List SourcePage
  pages = part.at.pages ++ source ∷ []

  abbrev written : SourcePage → WrittenPage
  written = written_page options coding

  abbrev as_put : PageForm
  as_put = sheet_form options coding part.sheet

  strips_are : contents page.done.items ≡ (written source).strips
  strips_are = rw (has.2.done, all_strips as_put options.k part.rows page has.2 all, ← all) refl

  abbrev given : WrittenPage
  given = given_page page.form page.done.items bad

  given_is : given ≡ written source
  given_is = rw (has.2.form_is, strips_are, all) refl

  with_source : with_page writer.written writer.total writer.added given
      ≡ with_pages empty_file most_pages 0 (map written pages)
  with_source = grind (arith, length-map, given_is, map-append, pages_next)

  pub page_ended : (new : Writing) → new ≡ with_one_more writer given → length_with writer given ≤ max_file
      → HasPages coding new (after part bad)
  page_ended new new_is fits =
      let total_is : writer.total ≡ most_pages = ap (λ (w : Writing). w.total) has.0.added in
      let count : writer.added + 1 ≡ length (map written pages) = omega (
        arith,
        ap (λ (w : Writing). w.added) has.0.added,
        length-map part.at.pages written,
        length-map pages written,
        length_push part.at.pages source,
      ) in
      record {
        coding_is = has.0.coding_is;
        few = omega (arith, has.1, length_push part.at.pages source);
        added = new_is ∙ rw (with_source, total_is, count) refl;
        fits = rw new_is fits;
      }

  pub page_too_large : TotalsAreTold → max_file < length_with writer given → StaysTooLarge (after part bad)
  page_too_large totals large = λ more.
      let all = map written (pages ++ more) in
      let alike = totals.alike (length all) most_pages all in
      inl (grind (arith, common_steps, length-map, pages_append, pages_grow, with_source, alike))
