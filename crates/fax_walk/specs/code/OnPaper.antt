-- How what is left of a file is put on paper.
use Rattle.std.specs.Prelude.{◌≡◌, ℕ, ◌+◌, ◌≤◌, max, Bool, true, false, List, [], ◌++◌, length, map}
use Rattle.std.specs.Prelude.{drop, Ok, Err}
use Rattle.fax_rows.specs.Rows.{Colour}
use Rattle.fax_files.specs.declared.FileFault.{FileFault}
use Rattle.fax_files.specs.Directory.{read_chain}
use Rattle.fax_files.specs.Page.{page}
use Rattle.fax_files.specs.views.Chain.{ChainState}
use Rattle.fax_files.specs.views.Page.{IsPageForm}
use Rattle.fax_files.specs.views.Tiff.{TiffDirectory, directory_of, received_of}
use Rattle.fax_walk.specs.declared.options.Options.{Options}
use Rattle.fax_walk.specs.declared.output.Output.{Output}
use Rattle.fax_walk.specs.declared.salvaged_file.LostCount.{LostCount}
use Rattle.fax_walk.specs.declared.salvaged_file.PageStep.{PageStep}
use Rattle.fax_walk.specs.declared.salvaged_file.PageStep.TheVariants.{Ends, Refused, There}
use Rattle.fax_walk.specs.Pages.{PageForm}
use Rattle.fax_walk.specs.Converted.{SourcePage}
use Rattle.fax_walk.specs.Salvaged.{PageRow, AreRowsOfPage}
use Rattle.fax_walk.specs.SalvagedFile.{AreSalvagedPages, IsSalvagedSource, count_lost}
use Rattle.fax_walk.specs.SalvagedFile.{longest_from, longest_lost, on_paper, salvaged_page}
use Rattle.fax_walk.specs.code.Opening.{IsChainBefore, page_with}
use Rattle.fax_walk.specs.code.Output.{IsPartWritten, IsUpcomingPage, form_sheet, no_rows}
use Rattle.fax_walk.specs.code.Output.{with_source_page}
use Rattle.fax_walk.specs.code.SalvageFile.{IsDirectoryNext, IsLastPassed}
use Rattle.fax_walk.specs.code.SalvageItems.{AreRowsLeft, RowsState, StaysOnPage, upcoming_row}
use Rattle.fax_walk.specs.code.Sources.{part_of}
use Rattle.fax_walk.specs.views.Converting.{IsWrittenTo, Progress}

-- the count of lost rows before the first row, after one that is found, and after more that are
-- lost
abbrev pub none_lost : LostCount
none_lost = record { rows = 0; longest = 0; stretch = 0 }

abbrev pub after_found : LostCount → LostCount
after_found lost = record {
  rows = lost.rows;
  longest = max lost.longest lost.stretch;
  stretch = 0;
}

abbrev pub after_lost : LostCount → ℕ → LostCount
after_lost lost count = record {
  rows = lost.rows + count;
  longest = lost.longest;
  stretch = lost.stretch + count;
}

-- so many rows of these are lost; and of these with others after them so many one after another at
-- most
pub record IsLostCount (passed : List PageRow) (lost : LostCount) : Type 0 where
  pub rows : lost.rows ≡ count_lost passed
  pub few : lost.rows ≤ length passed
  pub short : lost.stretch ≤ length passed
  pub longest : (rest : List PageRow)
      → longest_lost (passed ++ rest) ≡ max lost.longest (longest_from lost.stretch rest)

-- rows of a page on paper
abbrev pub paper_of : RowsState → List PageRow → List (List Colour)
paper_of rows passed = map (on_paper rows.form.width) passed

-- all rows of a page
abbrev pub AreAllOf : RowsState → List PageRow → Type 0
AreAllOf state rows = AreRowsOfPage state.directory.file (page_with state.directory state.form) rows

-- these rows of a page were put, after those of the pages before it
pub record ArePut (start : RowsState) (before : Output) (rows : RowsState) (output : Output)
    (passed : List PageRow) : Type 0 where
  pub stays : StaysOnPage start rows
  pub count : length passed ≡ upcoming_row rows
  pub within : upcoming_row rows ≤ start.form.rows
  pub followed : (rest : List PageRow) → AreRowsLeft rows rest → AreAllOf start (passed ++ rest)
  pub written : (at : Progress) → IsPartWritten before (no_rows at (form_sheet start.form))
      → IsPartWritten output (part_of at (form_sheet start.form) (paper_of start passed))

-- some rows of a page were put, and those that are lost are counted
pub record IsPutting (start : RowsState) (before : Output) (rows : RowsState) (output : Output)
    (lost : LostCount) : Type 0 where
  pub passed : List PageRow
  pub put : ArePut start before rows output passed
  pub counted : IsLostCount passed lost

-- all rows of a page were put
pub record PutsRows (start : RowsState) (before : Output) (output : Output)
    (lost : LostCount) : Type 0 where
  pub all : List PageRow
  pub are : AreAllOf start all
  pub count : length all ≡ start.form.rows
  pub lost_are : lost.rows ≡ count_lost all
  pub longest_is : max lost.longest lost.stretch ≡ longest_lost all
  pub written : (at : Progress) → IsPartWritten before (no_rows at (form_sheet start.form))
      → IsPartWritten output (part_of at (form_sheet start.form) (paper_of start all))

-- a page was put after those that were written
abbrev pub PutsPage : Options → TiffDirectory → PageForm → Output → Output → Type 0
PutsPage options directory form old new =
    (all : List PageRow) × AreRowsOfPage directory.file (page_with directory form) all
    × ((at : Progress) → IsUpcomingPage options old at
    → IsWrittenTo new (with_source_page at (salvaged_page form (received_of directory) all)))

-- what a chain has next
abbrev pub IsNextForm : ChainState → PageStep → Type 0
IsNextForm chain Ends = IsLastPassed chain
IsNextForm chain (Refused after) =
    (q : ℕ) × (fault : FileFault) × IsDirectoryNext chain q after
    × (page chain.tiff.head.endian chain.tiff.file q ≡ Err fault)
IsNextForm chain (There form strips after) =
    (q : ℕ) × IsDirectoryNext chain q after
    × (page chain.tiff.head.endian chain.tiff.file q ≡ Ok form) × IsPageForm form
    × (strips.directory ≡ directory_of chain.tiff q) × (strips.count ≡ form.strips)

-- the pages that were written are those of the directories that a chain has returned
pub record IsSalvaging (file : List ℕ) (options : Options) (chain : ChainState) (output : Output)
    (some : Bool) : Type 0 where
  pub before : IsChainBefore file chain.yielded chain
  pub pages : List SourcePage
  pub followed : (rest : List SourcePage)
      → AreSalvagedPages chain.tiff.head.endian file
      (drop chain.yielded (read_chain chain.tiff.head file).offsets) rest
      → IsSalvagedSource file (pages ++ rest)
  pub written : IsWrittenTo output (record { options = options; pages = pages })
  pub none_is : some ≡ false → pages ≡ []
  pub some_is : some ≡ true → 1 ≤ length pages
