-- Files that were written page by page, once their number of pages is reported in each. A
-- definition without a citation is this project's profile.
use Rattle.std.specs.Prelude.{◌≡◌, ℕ, ◌<◌, ◌≤◌, ◌⊎◌, List, [], ◌∷◌, ◌++◌, length, take, drop}
use Rattle.fax_files.specs.Directory.{max_file}
use Rattle.fax_files.specs.Layout.{WrittenPage, file_of, page_of, with_pages}
use Rattle.fax_files.specs.views.Writing.{ArePagesAfter, with_totals}
use Rattle.fax_files.specs.declared.PageForm.{PageForm}
use Rattle.fax_files.specs.views.Writing.{empty_file}
use Rattle.fax_c.specs.declared.forms.FaxForm.{FaxForm}
use Rattle.fax_c.specs.declared.writing.FaxWritten.{FaxWritten}
use Rattle.fax_c.specs.Raster.{AskedRaster, page_strips}
use Rattle.fax_c.specs.views.PageByPage.{IsFormGiven, file_so_far}

-- the numbers of a file that is written so far can be those of one with pages
pub record IsEndable (written : FaxWritten) : Type 0 where
  pub some : 1 ≤ written.added
  pub few : written.added ≤ 65535
  pub header : 8 ≤ written.len
  pub limit : written.len ≤ max_file

-- as many pages as were added stand in it
abbrev pub HasItsPages : FaxWritten → List ℕ → Type 0
HasItsPages written file = ArePagesAfter (take written.len file) written.added 4 written.link

-- each page of a file in memory of the caller says how many were added, and nothing else is
-- changed; or the file has more bytes than there is room, or these are no pages of a file, and
-- nothing is changed
abbrev pub TellsPagesEnded : List ℕ → List ℕ → FaxWritten → FaxWritten → ℕ → Type 0
TellsPagesEnded old_file file old written status =
    (IsEndable old × (old.len ≤ length old_file) × HasItsPages old old_file × (status ≡ 0)
    × (file ≡ with_totals old.added old.added 4 (take old.len old_file) ++ drop old.len old_file)
    × (written ≡ record old { total = old.added }))
    ⊎ ((file ≡ old_file) × (written ≡ old)
    × (((status ≡ 5) × IsEndable old × (length old_file < old.len))
    ⊎ ((status ≡ 7)
    × (IsEndable old → (old.len ≤ length old_file) × (HasItsPages old old_file → ⊥)))))

-- a file that is written so far is that of these pages, each of which says this total
pub record IsFileSoFar (total : ℕ) (pages : List WrittenPage) (written : FaxWritten)
    (file : List ℕ) : Type 0 where
  pub added : written.added ≡ length pages
  pub held : written.len ≤ length file
  pub is : file_so_far written file ≡ with_pages empty_file total 0 pages

-- a page that is added to such a file makes it that of one page more
abbrev pub AddsToPages : AskedRaster FaxForm → List ℕ → List ℕ → FaxWritten → FaxWritten → ℕ
    → Type 0
AddsToPages asked old_file file old written status =
    (pages : List WrittenPage) → IsFileSoFar old.total pages old old_file → status ≡ 0
    → (form : PageForm) × IsFormGiven asked.form form
    × IsFileSoFar old.total
    (pages ++ page_of form (page_strips form asked.k asked.stride asked.raster) ∷ []) written file

-- such a file, whatever each page said, is then the file of these pages
abbrev pub EndsWholeFile : List ℕ → List ℕ → FaxWritten → ℕ → Type 0
EndsWholeFile old_file file old status =
    (total : ℕ) (pages : List WrittenPage) → IsEndable old → IsFileSoFar total pages old old_file
    → (status ≡ 0) × (file ≡ file_of pages ++ drop old.len old_file)
