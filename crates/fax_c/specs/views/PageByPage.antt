-- Files that are written page by page, in memory of the caller.
-- A definition without a citation is this project's profile.
use Rattle.std.specs.Prelude.{◌≡◌, ℕ, ◌+◌, ◌-◌, ◌<◌, ◌≤◌, ◌⊎◌, ◌==◌, if◌then◌else◌, false, List}
use Rattle.std.specs.Prelude.{◌++◌, length, take, drop}
use Rattle.fax_files.specs.declared.PageForm.{PageForm}
use Rattle.fax_files.specs.declared.Endian.TheVariants.{Little}
use Rattle.fax_files.specs.Directory.{max_file, number_at}
use Rattle.fax_files.specs.Layout.{Written, page_of, with_page}
use Rattle.fax_files.specs.views.Page.{IsPageForm}
use Rattle.fax_files.specs.views.Writing.{empty_file}
use Rattle.fax_c.specs.declared.forms.FaxForm.{FaxForm}
use Rattle.fax_c.specs.declared.writing.FaxWritten.{FaxWritten}
use Rattle.fax_c.specs.Forms.{form_numbers}
use Rattle.fax_c.specs.Raster.{AskedRaster, HoldsRaster, page_strips}

-- these numbers are this form, in which a page can be written
pub record IsFormGiven (given : FaxForm) (form : PageForm) : Type 0 where
  pub given_is : given ≡ form_numbers form
  pub limits : IsPageForm form
  pub exchanged : form.exchanged ≡ false

-- a page can be added to a file that is written so far, whose header has no link but the first; a
-- total of 0 is not available (TIFF 6.0, PageNumber)
pub record IsWriting (written : FaxWritten) : Type 0 where
  pub few : written.total ≤ 65535
  pub most : written.added < 65535
  pub fewer : (written.total ≡ 0) ⊎ (written.added < written.total)
  pub place : (written.added ≡ 0) ⊎ ((8 ≤ written.len) × (written.len ≤ max_file)
      × (4 ≤ written.link) × (written.link + 4 ≤ written.len))

-- a file that is written so far has as many bytes as this at most
abbrev pub IsHeld : FaxWritten → ℕ → Type 0
IsHeld written room = (written.added ≡ 0) ⊎ (written.len ≤ room)

-- the last page of a file that is written so far, if there is one, says its total: PageNumber is
-- the last field of its directory, and this number the last two bytes (TIFF 6.0, PageNumber)
abbrev pub IsTotalSaid : FaxWritten → List ℕ → Type 0
IsTotalSaid written file =
    (written.added ≡ 0) ⊎ (number_at Little 2 file (written.link - 2) ≡ written.total)

-- a file that is written so far: an empty one, before the first page
abbrev pub file_so_far : FaxWritten → List ℕ → Written
file_so_far written file =
    if written.added == 0 then empty_file
    else record { bytes = take written.len file; link = written.link }

-- the file with one page more, whose rows are those of a raster
abbrev pub with_raster : AskedRaster PageForm → FaxWritten → List ℕ → Written
with_raster asked written file =
    with_page (file_so_far written file) written.total written.added
    (page_of asked.form (page_strips asked.form asked.k asked.stride asked.raster))

-- a page is added to a file in memory of the caller, and nothing after it is changed; or the file
-- with it has no room there, or is too large, or memory was refused, and nothing is changed
abbrev pub AddsPage : AskedRaster PageForm → List ℕ → List ℕ → FaxWritten → FaxWritten → ℕ
    → Type 0
AddsPage asked old_file file old written status =
    let next = with_raster asked old old_file in
    ((status ≡ 0) × (length next.bytes ≤ max_file) × (length next.bytes ≤ length old_file)
    × (file ≡ next.bytes ++ drop (length next.bytes) old_file)
    × (written ≡ record old {
      len = length next.bytes;
      link = next.link;
      added = old.added + 1;
    }))
    ⊎ ((file ≡ old_file) × (written ≡ old)
    × (((status ≡ 5) × (length next.bytes ≤ max_file) × (length old_file < length next.bytes))
    ⊎ ((status ≡ 8) × (max_file < length next.bytes)) ⊎ (status ≡ 4)))

-- a page can be written of these numbers and this raster, and added to a file
abbrev pub IsAddable : AskedRaster FaxForm → FaxWritten → PageForm → Type 0
IsAddable asked written form =
    IsFormGiven asked.form form × (0 < asked.k)
    × HoldsRaster (length asked.raster) form.width form.rows asked.stride × IsWriting written

-- a page is added; or the file so far has more bytes than there is room; or its last page says
-- another total; or the numbers are no form, or the raster is too short, or no page can be added to
-- such a file; then nothing is changed
abbrev pub TellsPageAdded : AskedRaster FaxForm → List ℕ → List ℕ → FaxWritten → FaxWritten → ℕ
    → Type 0
TellsPageAdded asked old_file file old written status =
    ((form : PageForm) × IsAddable asked old form
    × ((IsHeld old (length old_file) × IsTotalSaid old old_file
    × AddsPage (record { form = form; k = asked.k; raster = asked.raster; stride = asked.stride })
    old_file file old written status)
    ⊎ ((IsHeld old (length old_file) → ⊥) × (status ≡ 5) × (file ≡ old_file) × (written ≡ old))
    ⊎ (IsHeld old (length old_file) × (IsTotalSaid old old_file → ⊥) × (status ≡ 7)
    × (file ≡ old_file) × (written ≡ old))))
    ⊎ ((status ≡ 7) × (file ≡ old_file) × (written ≡ old)
    × ((form : PageForm) → IsAddable asked old form → ⊥))
