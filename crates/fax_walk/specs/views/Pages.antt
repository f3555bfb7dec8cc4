-- A reader of pages, as contracts see it.
use Rattle.std.specs.Prelude.{ℕ, ◌+◌, ◌^◌, List, Option, Some, None, Result, Ok, Err}
use Rattle.fax_files.specs.declared.PageForm.{PageForm}
use Rattle.fax_files.specs.views.Page.{IsPageForm}
use Rattle.fax_walk.specs.declared.cursor.Cursor.{Cursor}
use Rattle.fax_walk.specs.declared.end.End.TheVariants.{EndOfPages, Fault, Outside}
use Rattle.fax_walk.specs.declared.end.WalkFault.{WalkFault}
use Rattle.fax_walk.specs.declared.end.WalkFault.TheVariants.{Memory, AtRow, CursorOutside}
use Rattle.fax_walk.specs.Pages.{start}
use Rattle.fax_walk.specs.views.InOrder.{Reading, reading_from, Yields, HasEndedAs, IsAfterLast}
use Rattle.fax_walk.specs.Pages.{FormItem, IsFormTail}

-- a reader of pages: its file, the cursor that it began with, how many pages it returned, and how
-- the pages ended, once it reported that
abbrev pub PagesView : Type 0
PagesView = Reading Cursor

-- a reader of pages from a cursor, before its first page
abbrev pub pages_from : List ℕ → Cursor → PagesView
pages_from = reading_from

-- a reader of pages before the first one of its file
abbrev pub pages_start : List ℕ → PagesView
pages_start file = pages_from file start

-- fewer pages than these are returned: their number has 32 bits
abbrev pub page_limit : ℕ
page_limit = 2 ^ 32

-- this page is returned, and its form is one of a page
abbrev pub YieldsPage : PagesView → FormItem → PagesView → Type 0
YieldsPage old item new = Yields IsFormTail page_limit old item new × IsPageForm item.form

-- what a call for the next page answers, and what it leaves; memory is never refused
abbrev pub IsNextPage : PagesView → Result (Option (ℕ × PageForm)) WalkFault → PagesView → Type 0
IsNextPage old (Ok (Some found)) new =
    YieldsPage old (record { page = found.0; form = found.1 }) new
IsNextPage old (Ok None) new = HasEndedAs IsFormTail old EndOfPages new
IsNextPage old (Err (AtRow page row cause)) new =
    HasEndedAs IsFormTail old (Fault page row cause) new
IsNextPage old (Err CursorOutside) new = HasEndedAs IsFormTail old Outside new
IsNextPage old (Err Memory) new = ⊥

-- the cursor after the page that was returned last, or the one that the reader began with
abbrev pub IsCursorOfPages : PagesView → Cursor → Type 0
IsCursorOfPages pages =
    IsAfterLast IsFormTail pages (λ at. at) (λ item. record { page = item.page + 1; row = 0 })
