-- Pages that are given how many they are, in a file of the caller.
use Rattle.std.proofs.Common.{◌≡◌, ℕ, ◌+◌, ◌≤◌, false, List, [], ◌∷◌, ◌++◌, length, take, sym, ap, ◌∙◌, arith, inl, inr}
use Rattle.std.proofs.lemmas.List.{length-append, length-take-le}
use Rattle.std.proofs.lemmas.Bool.{ne_eqb}
use Rattle.std.proofs.Math.Seq.{take-append_seam}
use Rattle.std.specs.Prelude.{◌==◌}
use Rattle.std.proofs.Common.{drop, refl}
use Rattle.fax_files.specs.declared.PageForm.{PageForm}
use Rattle.fax_files.specs.Layout.{Written, WrittenPage, file_of, page_of, with_page, with_pages}
use Rattle.fax_files.specs.laws.TiffFiles.{TotalsAreTold}
use Rattle.fax_files.specs.views.Writing.{with_totals}
use Rattle.fax_files.specs.views.Writing.{empty_file}
use Rattle.fax_c.specs.declared.writing.FaxWritten.{FaxWritten}
use Rattle.fax_c.specs.declared.forms.FaxForm.{FaxForm}
use Rattle.fax_c.specs.Raster.{AskedRaster, page_strips}
use Rattle.fax_c.specs.views.PageByPage.{TellsPageAdded, file_so_far}
use Rattle.fax_c.specs.views.Ended.{AddsToPages, EndsWholeFile, HasItsPages, IsEndable, IsFileSoFar, TellsPagesEnded}
use Rattle.fax_files.proofs.PageByPageLemmas.{with_pages-push}

-- a file that is written
abbrev file_at : List ℕ → ℕ → Written
file_at bytes link = record { bytes = bytes; link = link }

-- a file that is written so far, of some pages
so_far : (written : FaxWritten) (file : List ℕ) → 1 ≤ written.added
    → file_so_far written file ≡ file_at (take written.len file) written.link
so_far written file some =
    let there : (written.added == 0) ≡ false = ne_eqb _ _ (λ e. absurd (omega (arith, e, some))) in rw there refl

-- such a file has its pages, and with their number in each it is the file of them
of_pages : TotalsAreTold → (total : ℕ) (pages : List WrittenPage) (old : FaxWritten) (file : List ℕ) → IsEndable old
    → IsFileSoFar total pages old file
    → HasItsPages old file × (with_totals old.added old.added 4 (take old.len file) ≡ file_of pages)
of_pages totals total pages old file e is =
    let so = sym (so_far old file e.some) ∙ is.is in
    let bytes_are = ap (λ (w : Written). w.bytes) so in
    let told = totals.told (length pages) total pages
    (omega (arith, ap (λ (l : List ℕ). length l) bytes_are, length-take-le old.len file is.held, e.limit)) in
    rw (bytes_are, ap (λ (w : Written). w.link) so, is.added) told

pub ends_whole : TotalsAreTold → (old_file file : List ℕ) (old written : FaxWritten) (status : ℕ)
    → TellsPagesEnded old_file file old written status
    → EndsWholeFile old_file file old status
ends_whole totals old_file file old written status told = λ total pages e is.
    let told_are = of_pages totals total pages old old_file e is in
    elim told [
      | inl (some, held, has, done, file_is, same) ↦
          (done, file_is ∙ ap (λ (l : List ℕ). l ++ drop old.len old_file) told_are.1)
      | inr (same, kept, inl (no_room, some, short)) ↦ absurd (omega (arith, short, is.held))
      | inr (same, kept, inr (none, others)) ↦ absurd ((others e).1 told_are.0)
    ]

-- a file so far with one more page
pushed : (old written : FaxWritten) (old_file file rest : List ℕ) (form : PageForm) (strips : List (List ℕ))
    (pages : List WrittenPage)
    → IsFileSoFar old.total pages old old_file
    → let next = with_page (file_so_far old old_file) old.total old.added (page_of form strips) in
    written ≡ record old { len = length next.bytes; link = next.link; added = old.added + 1 }
    → file ≡ next.bytes ++ rest
    → IsFileSoFar old.total (pages ++ page_of form strips ∷ []) written file
unfolding with_page
pushed old written old_file file rest form strips pages before is file_is =
    let page : WrittenPage = page_of form strips in
    let next = with_page (file_so_far old old_file) old.total old.added page in
    let number : old.added ≡ 0 + length pages = omega (arith, before.added) in
    let bytes : take written.len file ≡ next.bytes = rw (is, file_is) (take-append_seam next.bytes rest) in
    record {
      added = rw is (omega (arith, before.added, length-append pages (page ∷ [])));
      held = rw (is, file_is) (omega (arith, length-append next.bytes rest));
      is = so_far written file (rw is (omega arith))
          ∙ rw (bytes, ap (λ (w : FaxWritten). w.link) is) (
          ap (λ (w : Written). with_page w old.total old.added page) before.is
          ∙ ap (λ n. with_page (with_pages empty_file old.total 0 pages) old.total n page) number
          ∙ sym (with_pages-push empty_file old.total 0 pages page));
    }

pub adds_to_pages : (asked : AskedRaster FaxForm) (old_file file : List ℕ) (old written : FaxWritten) (status : ℕ)
    → TellsPageAdded asked old_file file old written status → AddsToPages asked old_file file old written status
adds_to_pages asked old_file file old written status told = λ pages before is. elim told [
  | inl (form, addable, inl (held, said, inl (done, limit, room, file_is, written_is))) ↦ (
    form,
    addable.0,
    pushed old written old_file file _ form (page_strips form asked.k asked.stride asked.raster) pages before
        written_is file_is,
  )
  | inl (form, addable, inl (held, said, inr others)) ↦ absurd (grind (arith, is, others))
  | inl (form, addable, inr others) ↦ absurd (grind (arith, is, others))
  | inr (other, same, kept, none) ↦ absurd (omega (arith, is, other))
]
