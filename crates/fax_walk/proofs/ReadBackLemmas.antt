-- What is converted is read back.
use Rattle.std.proofs.lemmas.Grind.{common_steps}
use Rattle.std.proofs.Common.{◌≡◌, ◌≢◌, ℕ, suc, ◌+◌, ◌<◌, ◌≤◌, inl, inr, List, [], ◌∷◌, map, drop, length}
use Rattle.std.proofs.Common.{None, Ok, refl, sym, ap, ◌∙◌, subst, arith}
use Rattle.std.specs.Prelude.{All, codes}
use Rattle.std.proofs.lemmas.List.{length-map, map-append}
use Rattle.std.proofs.lemmas.List.Elements.{All-cons, All-head, All-nil, All-tail}
use Rattle.fax_bits.specs.Bits.{StartsWith}
use Rattle.fax_files.specs.declared.PageForm.{PageForm}
use Rattle.fax_files.specs.Pbm.{AreImages, Image, IsImage}
use Rattle.fax_files.specs.laws.TiffFiles.{FormsAreWithinLimits}
use Rattle.fax_files.specs.laws.Pbm.{AreOfWidth, AreWritableImages, IsWritableImage, WrittenImagesAreRead}
use Rattle.fax_files.specs.views.Page.{IsPageForm}
use Rattle.fax_walk.specs.declared.cursor.Cursor.{Cursor}
use Rattle.fax_walk.specs.declared.end.End.TheVariants.{EndOfPages}
use Rattle.fax_walk.specs.declared.options.Options.{Options}
use Rattle.fax_walk.specs.declared.options.Target.{Target}
use Rattle.fax_walk.specs.declared.options.Target.TheVariants as To
use Rattle.fax_walk.specs.Pages.{AreFrom, FilePage, FormItem, IsForm, read_page}
use Rattle.fax_walk.specs.Items.{AreItems, RowItem}
use Rattle.fax_rows.specs.laws.Packed.{PackingUndoesUnpacking}
use Rattle.fax_walk.specs.Converted.{IsSource, IsTiff, IsTooLarge, SourcePage, pages_of, target_bytes}
use Rattle.fax_walk.specs.code.Output.{form_sheet, page_of}
use Rattle.fax_walk.specs.code.Sources.{ArePaged, AreRowsOn, FilesArePaged, pels_of_runs}
use Rattle.fax_walk.specs.views.Converting.{page_of_image}
use Rattle.fax_walk.specs.laws.ReadBack.{AreReadBack, ConversionsAreReadBack, ConversionsKeepItems}
use Rattle.fax_walk.specs.laws.Tails.{FilesHaveOneItems}
use Rattle.fax_walk.specs.laws.WrittenFiles.{CodedFilesAreWalked, IsWritableSource, numbered, rows_of, walked}
use Rattle.fax_walk.proofs.FileLemmas.{some_pages}
use Rattle.fax_walk.proofs.PageLawLemmas.{in_chain}
use Rattle.fax_walk.proofs.ImageLemmas.{raster_count, raster_widths}
use Rattle.fax_walk.proofs.SourcePageLemmas.{first_page, found_page}

-- a page of a form within the limits, whose rows have its width, can be written
page_writable : (form : PageForm) (own : List RowItem) → IsPageForm form → length own ≡ form.rows
    → AreOfWidth form.width (pels_of_runs own)
    → IsWritableSource (page_of (form_sheet form) (pels_of_runs own) None)
page_writable form own limits count wide = grind (arith, length-map)

-- an image that was read can be written
image_writable : PackingUndoesUnpacking → (remaining : List ℕ) (image : Image) (rest : List ℕ)
    → IsImage remaining image rest
    → IsWritableImage image
image_writable packs remaining image rest is = grind (arith, raster_count, raster_widths)

image_page_writable : (image : Image) → IsWritableImage image → IsWritableSource (page_of_image image)
image_page_writable image writable = grind (arith, common_steps)

images_writable : PackingUndoesUnpacking → (bytes : List ℕ) (images : List Image) → AreImages bytes images None
    → All IsWritableSource (map page_of_image images)
images_writable packs bytes [] are = All-nil IsWritableSource
images_writable packs bytes (image ∷ images) (rest, is, are) =
    All-cons IsWritableSource (page_of_image image) (map page_of_image images)
    (image_page_writable image (image_writable packs bytes image rest is))
    (images_writable packs rest images are)

-- a file of images that begins as one has one
some_images : (bytes : List ℕ) (images : List Image) → StartsWith bytes (codes "P4") → AreImages bytes images None
    → 1 ≤ length images
some_images bytes images begins are = grind (arith, common_steps)

pub pages_counted : (forms : List FormItem) (items : List RowItem) → length (pages_of forms items) ≡ length forms
pages_counted [] items = refl
pages_counted (one ∷ forms) items = ap suc (pages_counted forms (drop one.form.rows items))

-- rows of a page with their places
rows_numbered : (p : ℕ) (form : PageForm) (r : ℕ) (own : List RowItem) → AreRowsOn p form r own
    → map walked own ≡ numbered p r (pels_of_runs own)
rows_numbered p form r [] are = refl
rows_numbered p form r (x ∷ own) are = rw (are.0, are.2, rows_numbered p form (r + 1) own are.4) refl

rows_wide : (p : ℕ) (form : PageForm) (r : ℕ) (own : List RowItem) → AreRowsOn p form r own
    → AreOfWidth form.width (pels_of_runs own)
rows_wide p form r [] are = tt
rows_wide p form r (x ∷ own) are = (are.3, rows_wide p form (r + 1) own are.4)

-- the rows of these pages, with their places, are the items
items_kept : (forms : List FormItem) (p : ℕ) (items : List RowItem) → ArePaged p forms EndOfPages items EndOfPages
    → rows_of p (map (λ source. source.image.rows) (pages_of forms items)) ≡ map walked items
items_kept [] p items paged = sym (ap (map walked) paged.0)
items_kept (one ∷ forms) p items (own, others, items_are, are, inr stop) = let no = stop.2.3 in absurd cc
items_kept (one ∷ forms) p items (own, others, items_are, are, inl whole) =
    grind (arith, first_page, rows_numbered, map-append, items_kept forms (p + 1) others whole.2)

module _ (packs : PackingUndoesUnpacking) (paged : FilesArePaged) (within_limits : FormsAreWithinLimits) where
  page_limits : (file : List ℕ) → All (λ byte. byte < 256) file → (at : Cursor) (here : FilePage)
      → read_page file at ≡ Ok here
      → IsPageForm here.form
  page_limits file bytes at here is =
      let found = in_chain file at here is in within_limits here.endian file here.offset here.form bytes found.fields

  -- the pages of forms and items that end properly can be written
  forms_writable : (file : List ℕ) → All (λ byte. byte < 256) file
      → (forms : List FormItem) (p : ℕ) (items : List RowItem)
      → AreFrom (IsForm file) p forms EndOfPages → ArePaged p forms EndOfPages items EndOfPages
      → All IsWritableSource (pages_of forms items)
  forms_writable file bytes [] p items forms_are paged = All-nil IsWritableSource
  forms_writable file bytes (one ∷ forms) p items forms_are (own, others, items_are, are, inr stop) = grind arith
  forms_writable file bytes (one ∷ forms) p items (next, step, rest) (own, others, items_are, are, inl whole) =
      let found = found_page file p one next step in
      let limits : IsPageForm one.form =
      subst IsPageForm (sym found.2) (page_limits file bytes (record { page = p; row = 0 }) found.0 found.1) in
      let this : IsWritableSource (page_of (form_sheet one.form) (pels_of_runs own) None) =
      page_writable one.form own limits whole.0 (rows_wide p one.form 0 own are) in
      let later = forms_writable file bytes forms (p + 1) others (rw found.3 at rest) whole.2 in
      subst (All IsWritableSource) (sym (first_page one forms items own others items_are whole.0))
      (All-cons IsWritableSource (page_of (form_sheet one.form) (pels_of_runs own) None) (pages_of forms others) this
      later)

  source_writable : (bytes : List ℕ) → All (λ byte. byte < 256) bytes → (pages : List SourcePage) → IsSource bytes pages
      → All IsWritableSource pages × (1 ≤ length pages)
  source_writable bytes are_bytes pages (inl (begins, images, are, pages_are)) =
      let some = some_images bytes images begins are in
      let count : length pages ≡ length images =
      ap (λ (l : List SourcePage). length l) pages_are ∙ length-map images page_of_image in (
        subst (All IsWritableSource) (sym pages_are) (images_writable packs bytes images are),
        omega
            (arith, some, count),
      )
  source_writable bytes are_bytes pages (inr (tiff, forms, items, forms_are, items_are, pages_are)) =
      let some = some_pages bytes forms forms_are in
      let count : length pages ≡ length forms = ap (λ (l : List SourcePage). length l) pages_are
      ∙ pages_counted forms items in (
        subst (All IsWritableSource) (sym pages_are) (forms_writable bytes are_bytes forms 0 items forms_are
            (paged bytes forms EndOfPages items EndOfPages forms_are items_are)),
        omega (arith, some, count),
      )

images_of_pages : (pages : List SourcePage) → All IsWritableSource pages
    → AreWritableImages (map (λ source. source.image) pages)
images_of_pages [] are = tt
images_of_pages (source ∷ pages) are = (
  (All-head IsWritableSource source pages are).image,
  images_of_pages pages
      (All-tail IsWritableSource source pages are),
)

module _ (written : CodedFilesAreWalked) (images : WrittenImagesAreRead) (options : Options) (pages : List SourcePage)
    (are : All IsWritableSource pages) (some : 1 ≤ length pages) where
  pub read_back : (target : Target) → options.target ≡ target → (output : List ℕ)
      → output ≡ target_bytes target options pages
      → (IsTooLarge target pages output → ⊥) → AreReadBack target options pages output
  read_back target target_is output output_is fits = grind (arith, images_of_pages)

pub conversions_are_read_back : PackingUndoesUnpacking → FilesArePaged → FormsAreWithinLimits → CodedFilesAreWalked
    → WrittenImagesAreRead
    → ConversionsAreReadBack
conversions_are_read_back packs paged within written images bytes options output are_bytes converted =
    let found = source_writable packs paged within bytes are_bytes converted.pages converted.source in
    read_back written images options converted.pages found.0 found.1 options.target refl output converted.output_is
    converted.fits

-- a TIFF file does not begin as images do
pub not_both : (bytes : List ℕ) → StartsWith bytes (codes "P4") → IsTiff bytes → ⊥
not_both bytes h h' = grind arith

walked_in : (target : Target) (options : Options) (pages : List SourcePage) (output : List ℕ) → target ≢ To.Pbm
    → AreReadBack target options pages output
    → (items : List RowItem) × AreItems output items EndOfPages
    × (map walked items ≡ rows_of 0 (map (λ source. source.image.rows) pages))
walked_in target options pages output other is = grind arith

module _ (paged : FilesArePaged) where
  source_kept : (bytes : List ℕ) (pages : List SourcePage) → IsTiff bytes → IsSource bytes pages
      → (items : List RowItem) × AreItems bytes items EndOfPages
      × (rows_of 0 (map (λ source. source.image.rows) pages) ≡ map walked items)
  source_kept bytes pages tiff h = grind (arith, items_kept)

  pub conversions_keep_items : FilesHaveOneItems → ConversionsAreReadBack → ConversionsKeepItems
  conversions_keep_items one back bytes options output items others end other are_bytes tiff target converted items_are
      others_are =
      let kept = source_kept bytes converted.pages tiff converted.source in
      let found = walked_in options.target options converted.pages output target
      (back bytes options output are_bytes converted) in
      let source = one bytes in
      let made = one output in
      let first = source.one items end items_are in
      let first' = source.one kept.0 EndOfPages kept.1 in
      let second = made.one others other others_are in
      let second' = made.one found.0 EndOfPages found.1 in (
        ap (map walked) (second.0 ∙ sym second'.0) ∙ found.2 ∙ kept.2 ∙ ap (map walked) (first'.0 ∙ sym first.0),
        first.1 ∙ sym first'.1,
        second.1 ∙ sym second'.1,
      )
