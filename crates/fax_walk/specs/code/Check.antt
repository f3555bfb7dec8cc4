-- How far a file is checked.
use Rattle.std.specs.Prelude.{◌≡◌, ℕ, ◌+◌, ◌*◌, ◌==◌, ◌<◌, ◌≤◌, ◌^◌, min, if◌then◌else◌, Bool, List}
use Rattle.std.specs.Prelude.{◌++◌, length, flat_map, Option, Some, None, ⊤}
use Rattle.fax_page.specs.declared.notes.NotesFault.{NotesFault}
use Rattle.fax_page.specs.declared.notes.NotesFault.TheVariants.{Memory, Strip}
use Rattle.fax_files.specs.declared.Cause.{Cause}
use Rattle.fax_files.specs.declared.Cause.TheVariants.{Strip as FaultOfStrip}
use Rattle.fax_files.specs.declared.PageForm.{PageForm}
use Rattle.fax_files.specs.views.Tiff.{TiffDirectory, form_of}
use Rattle.fax_walk.specs.declared.checking.Note.{Note}
use Rattle.fax_walk.specs.declared.checking.PageRead.{PageRead}
use Rattle.fax_walk.specs.declared.end.End.{End}
use Rattle.fax_walk.specs.declared.end.End.TheVariants.{Fault}
use Rattle.fax_walk.specs.Pages.{read_page, page_with_form, ends_as}
use Rattle.fax_walk.specs.code.RowPlaces.{first_on}
use Rattle.fax_walk.specs.laws.InOrder.{LeadTo}
use Rattle.fax_walk.specs.Items.{RowItem, RowPosition, first_at, IsRow}
use Rattle.fax_walk.specs.Report.{IsNoted}
use Rattle.fax_files.specs.Page.{most_rows}

-- how far a file is checked: what is checked next, and the next row
pub record CheckPlace : Type 0 where
  pub next : ℕ × Option ℕ
  pub row : RowPosition

-- before page p
abbrev pub before_page : ℕ → CheckPlace
before_page p = record { next = (p, None); row = first_at p 0 }

-- before strip s of page p; after the page's last strip before the next page
abbrev pub before_strip : PageForm → ℕ → ℕ → CheckPlace
before_strip form p s = record {
  next = if s == form.strips then (p + 1, None) else (p, Some s);
  row = first_on form p (min (s * form.rows_per_strip) form.rows);
}

-- from one place to another a file has these notes and so many rows
pub record HasChecked (with_received : Bool) (file : List ℕ) (from to : CheckPlace)
    (notes : List Note) (rows : ℕ) : Type 0 where
  pub found : List (List Note)
  pub lead : LeadTo (IsNoted with_received file) from.next found to.next
  pub notes_are : notes ≡ flat_map (λ own. own) found
  pub items : List RowItem
  pub lead_rows : LeadTo (IsRow file) from.row items to.row
  pub count : rows ≡ length items

-- what stands at a place is this end
abbrev pub EndsThere : Bool → List ℕ → CheckPlace → End → Type 0
EndsThere with_received file at end =
    IsNoted with_received file at.next (ends_as end) × IsRow file at.row (ends_as end)

-- a directory is that of page p of its file
abbrev pub IsDirectoryOfPage : TiffDirectory → ℕ → Type 0
IsDirectoryOfPage directory p =
    (r : ℕ) → read_page directory.file (record { page = p; row = r })
    ≡ page_with_form directory.endian directory.offset p (form_of directory)

-- the first strips of a page are whole: these notes were added, and so many rows are theirs
pub record AreStripsChecked (with_received : Bool) (directory : TiffDirectory) (form : PageForm)
    (p s : ℕ) (old new : List Note) : Type 0 where
  pub noted : List Note
  pub notes_are : new ≡ old ++ noted
  pub is : HasChecked with_received directory.file (before_strip form p 0) (before_strip form p s)
      noted (min (s * form.rows_per_strip) form.rows)

-- after so many rows of page p the next page comes next, or there is this fault
abbrev pub IsAfterRows : Bool → List ℕ → ℕ → ℕ → Option Cause → CheckPlace → Type 0
IsAfterRows with_received file p rows None at = at ≡ before_page (p + 1)
IsAfterRows with_received file p rows (Some cause) at =
    EndsThere with_received file at (Fault p rows cause)

-- the rest of page p was read from a place on, wholly or up to a fault, and the notes on it were
-- added
pub record IsRestChecked (with_received : Bool) (file : List ℕ) (from : CheckPlace) (p : ℕ)
    (old new : List Note) (read : PageRead) : Type 0 where
  pub noted : List Note
  pub notes_are : new ≡ old ++ noted
  pub few : read.rows ≤ most_rows
  pub to : CheckPlace
  pub is : HasChecked with_received file from to noted read.rows
  pub after : IsAfterRows with_received file p read.rows read.fault to

-- the row that cannot be read stands after so many rows of the page. Of want of memory nothing is
-- said
abbrev pub IsRowInside : ℕ → NotesFault → Type 0
IsRowInside before Memory = ⊤
IsRowInside before (Strip row fault) = before + row < 2 ^ 32

-- the page was read up to that row
abbrev pub IsReadTo : ℕ → NotesFault → PageRead → Type 0
IsReadTo before Memory read = ⊥
IsReadTo before (Strip row fault) read =
    read ≡ record { rows = before + row; fault = Some (FaultOfStrip fault) }

-- the first pages of a file were read wholly, and have so many rows and these notes
pub record ArePagesChecked (with_received : Bool) (file : List ℕ) (yielded rows : ℕ)
    (noted : List Note) : Type 0 where
  pub few : rows ≤ yielded * most_rows
  pub is : HasChecked with_received file (before_page 0) (before_page yielded) noted rows
