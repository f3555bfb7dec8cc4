-- Pages as they come next.
use Rattle.std.specs.Prelude.{◌≡◌, ℕ, ◌+◌, ◌<◌, ◌≤◌, ◌⊎◌, List, length, Option, Some, None, Result}
use Rattle.std.specs.Prelude.{Ok, Err}
use Rattle.fax_page.specs.declared.PlaceFault.{PlaceFault}
use Rattle.fax_page.specs.declared.PlaceFault.TheVariants as InStrip
use Rattle.fax_files.specs.declared.PageForm.{PageForm}
use Rattle.fax_files.specs.Directory.{header}
use Rattle.fax_files.specs.views.Page.{IsPageForm}
use Rattle.fax_files.specs.views.Chain.{ChainState, chain_of}
use Rattle.fax_files.specs.views.Tiff.{PageStrips, TiffDirectory, form_of}
use Rattle.fax_walk.specs.declared.cursor.Cursor.{Cursor}
use Rattle.fax_walk.specs.declared.end.End.{End}
use Rattle.fax_walk.specs.declared.end.End.TheVariants.{EndOfPages, Outside}
use Rattle.fax_walk.specs.declared.opening.OpenFault.{OpenFault}
use Rattle.fax_walk.specs.declared.opening.OpenFault.TheVariants.{Ended, Memory}
use Rattle.fax_walk.specs.Pages.{FilePage, read_page}

-- why no page is opened at a place inside a strip, where no reader stands there
abbrev pub fault_inside : PlaceFault → OpenFault
fault_inside InStrip.Memory = Memory
fault_inside InStrip.Outside = Ended Outside

-- the next page: its number, the chain after its directory, its directory and its form
pub record UpcomingPage : Type 0 where
  pub page : ℕ
  pub chain : ChainState
  pub directory : TiffDirectory
  pub form : PageForm

-- a file's chain, before the directory of this number
pub record IsChainBefore (file : List ℕ) (number : ℕ) (chain : ChainState) : Type 0 where
  pub head : header file ≡ Ok chain.tiff.head
  pub file_is : chain.tiff.file ≡ file
  pub yielded : chain.yielded ≡ number
  pub within : number ≤ length (chain_of chain.tiff).offsets

-- a chain is its file's, as far as it is read
abbrev pub IsFileChain : ChainState → Type 0
IsFileChain chain = IsChainBefore chain.tiff.file chain.yielded chain

-- the page with this directory and this form
abbrev pub page_with : TiffDirectory → PageForm → FilePage
page_with directory form =
    record { endian = directory.endian; offset = directory.offset; form = form }

-- page p of a file is this one, whichever row is named
abbrev pub IsPageOf : List ℕ → ℕ → FilePage → Type 0
IsPageOf file p here = (r : ℕ) → read_page file (record { page = p; row = r }) ≡ Ok here

-- page p of its file has this directory and this form, and the chain stands after it
pub record IsFilePage (p : ℕ) (chain : ChainState) (directory : TiffDirectory)
    (form : PageForm) : Type 0 where
  pub here : IsPageOf directory.file p (page_with directory form)
  pub after : IsChainBefore directory.file (p + 1) chain

-- the next page is its file's, with a form within the limits
pub record IsUpcomingPage (number : ℕ) (chain : ChainState) (strips : PageStrips)
    (form : PageForm) : Type 0 where
  pub its : IsFilePage number chain strips.directory form
  pub form_is : form_of strips.directory ≡ Ok form
  pub limits : IsPageForm form
  pub counted : strips.count ≡ form.strips

-- from any row of a page on there is nothing but this end
abbrev pub IsNoPage : List ℕ → ℕ → End → Type 0
IsNoPage file p end = (r : ℕ) → read_page file (record { page = p; row = r }) ≡ Err end

-- what stands next in a chain: a page, none after the last one, or the end in its place
abbrev pub IsPageAnswer : ChainState → Result (Option UpcomingPage) End → Type 0
IsPageAnswer chain (Ok (Some upcoming)) =
    (upcoming.page ≡ chain.yielded) × (upcoming.directory.file ≡ chain.tiff.file)
IsPageAnswer chain (Ok None) =
    (read_page chain.tiff.file (record { page = chain.yielded; row = 0 }) ≡ Err EndOfPages)
    × ((r : ℕ) → 0 < r
    → read_page chain.tiff.file (record { page = chain.yielded; row = r }) ≡ Err Outside)
IsPageAnswer chain (Err end) = IsNoPage chain.tiff.file chain.yielded end

-- a cursor names this page, or the place after the last one
abbrev pub IsNamed : List ℕ → Cursor → Option UpcomingPage → Type 0
IsNamed file at (Some upcoming) =
    (upcoming.directory.file ≡ file) × (upcoming.page ≡ at.page) × (at.row ≤ upcoming.form.rows)
    × (read_page file at ≡ Ok (page_with upcoming.directory upcoming.form))
IsNamed file at None = read_page file at ≡ Err EndOfPages

-- from a cursor on there is nothing but this end: there is no such page, or it ends before
abbrev pub EndsAt : List ℕ → Cursor → End → Type 0
EndsAt file at end =
    (read_page file at ≡ Err end)
    ⊎ ((here : FilePage) × (read_page file at ≡ Ok here) × (here.form.rows < at.row)
    × (end ≡ Outside))
