-- How far an output is written.
use Rattle.std.specs.Prelude.{◌≡◌, ℕ, ◌+◌, ◌*◌, ◌<◌, ◌≤◌, min, false, List, [], ◌∷◌, ◌++◌, length}
use Rattle.std.specs.Prelude.{map, flat_map, replicate, Option, Some, None, unwrap_or}
use Rattle.fax_bits.specs.declared.Colour.{Colour}
use Rattle.fax_rows.specs.Coded.{packed_len, packed_row}
use Rattle.fax_page.specs.declared.Coding.{Coding}
use Rattle.fax_page.specs.Lines.{white_row}
use Rattle.fax_files.specs.declared.PageForm.{PageForm}
use Rattle.fax_files.specs.views.Page.{IsGoodRational, strip_count}
use Rattle.fax_files.specs.declared.bad_rows.BadRows.{BadRows}
use Rattle.fax_files.specs.Pbm.{pbm_of}
use Rattle.fax_files.specs.views.Pbm.{head_bytes}
use Rattle.fax_files.specs.laws.Pbm.{AreOfWidth}
use Rattle.fax_files.specs.Directory.{max_file}
use Rattle.fax_files.specs.views.Writing.{Writing}
use Rattle.fax_walk.specs.declared.options.Options.{Options}
use Rattle.fax_walk.specs.declared.options.Target.TheVariants.{Pbm}
use Rattle.fax_walk.specs.declared.options.ConvertFault.{ConvertFault}
use Rattle.fax_walk.specs.declared.options.ConvertFault.TheVariants.{OutputTooLarge}
use Rattle.fax_walk.specs.declared.open_strips.StripsWriter.{StripsWriter}
use Rattle.fax_walk.specs.declared.output.Output.{Output}
use Rattle.fax_walk.specs.declared.output.Output.TheVariants.{Images, File, TooLarge}
use Rattle.fax_walk.specs.declared.page_size.PageSize.{PageSize}
use Rattle.fax_files.specs.Page.{most_pels, most_rows}
use Rattle.fax_walk.specs.Converted.{SourcePage, most_pages, target_bytes, IsTooLarge}
use Rattle.fax_walk.specs.code.StripsWriter.{HasPutRows}
pub use Rattle.fax_walk.specs.views.Converting.{HasPages, HasPutImages, IsWrittenTo, Progress}
pub use Rattle.fax_walk.specs.views.Converting.{StaysTooLarge, coding_of}

-- a sheet within the limits of a page
pub record IsSheet (sheet : PageSize) : Type 0 where
  pub some_width : 1 ≤ sheet.width
  pub width : sheet.width ≤ most_pels
  pub some_rows : 1 ≤ sheet.rows
  pub rows : sheet.rows ≤ most_rows
  pub x : IsGoodRational sheet.x
  pub y : IsGoodRational sheet.y
  pub some_unit : 1 ≤ sheet.unit
  pub unit : sheet.unit ≤ 3

-- the sheet of an image
abbrev pub image_sheet : ℕ → ℕ → PageSize
image_sheet width rows = record { width = width; rows = rows; x = (204, 1); y = (196, 1); unit = 2 }

-- the sheet of a page of a TIFF file
abbrev pub form_sheet : PageForm → PageSize
form_sheet form =
    record { width = form.width; rows = form.rows; x = form.x; y = form.y; unit = form.unit }

-- the form of a sheet's page as it is written
abbrev pub sheet_form : Options → Coding → PageSize → PageForm
sheet_form options coding sheet =
    let rows_per_strip = min (unwrap_or options.strip sheet.rows) sheet.rows in
    record {
      width = sheet.width;
      rows = sheet.rows;
      coding = coding;
      order = options.order;
      aligned = options.aligned;
      exchanged = false;
      rows_per_strip = rows_per_strip;
      strips = strip_count sheet.rows rows_per_strip;
      x = sheet.x;
      y = sheet.y;
      unit = sheet.unit;
    }

-- the page of a sheet with these rows, and these bad rows where some are to be said
abbrev pub page_of : PageSize → List (List Colour) → Option BadRows → SourcePage
page_of sheet rows bad = record {
  image = record { width = sheet.width; rows = rows };
  resolution = record { x = sheet.x; y = sheet.y; unit = sheet.unit };
  bad = bad;
}

-- before the first page
abbrev pub nothing_written : Options → Progress
nothing_written options = record { options = options; pages = [] }

-- with one more page
abbrev pub with_source_page : Progress → SourcePage → Progress
with_source_page at page = record at { pages = at.pages ++ page ∷ [] }

-- a page that is being written: its sheet, and the rows of it that were put
pub record Part : Type 0 where
  pub at : Progress
  pub sheet : PageSize
  pub rows : List (List Colour)

-- before a page's first row
abbrev pub no_rows : Progress → PageSize → Part
no_rows at sheet = record { at = at; sheet = sheet; rows = [] }

-- with one more row
abbrev pub with_row : Part → List Colour → Part
with_row part row = record part { rows = part.rows ++ row ∷ [] }

-- with more rows
abbrev pub with_rows : Part → List (List Colour) → Part
with_rows part rows = record part { rows = part.rows ++ rows }

-- after the page, of which these bad rows are said
abbrev pub after : Part → Option BadRows → Progress
after part bad = with_source_page part.at (page_of part.sheet part.rows bad)

-- these pages are written by these options
pub record IsUpcomingPage (options : Options) (output : Output) (at : Progress) : Type 0 where
  pub options_are : at.options ≡ options
  pub written : IsWrittenTo output at

-- the page's rows are written after the images of the pages before it, and there is room for those
-- that are left
pub record HasImageRows (bytes : List ℕ) (part : Part) : Type 0 where
  pub target : part.at.options.target ≡ Pbm
  pub bytes_are : bytes
      ≡ pbm_of (map (λ page. page.image) part.at.pages)
      ++ (head_bytes part.sheet.width part.sheet.rows ++ flat_map packed_row part.rows)
  pub remaining : ℕ
  pub left_is : length part.rows + remaining ≡ part.sheet.rows
  pub fits : length bytes + remaining * packed_len part.sheet.width ≤ max_file

-- the rows are put on a page of a TIFF file that has the pages before it
abbrev pub HasRowsOnPage : Coding → Writing → Option StripsWriter → Part → Type 0
HasRowsOnPage coding writer None part = ⊥
HasRowsOnPage coding writer (Some page) part =
    HasPages coding writer part.at × (length part.at.pages < most_pages)
    × HasPutRows (sheet_form part.at.options coding part.sheet) part.at.options.k part.rows page

-- a page of this sheet makes the output too large, whatever rows it has, whatever is said of them
-- and whatever follows it
abbrev pub BecomesTooLarge : Part → Type 0
BecomesTooLarge part =
    (rows : List (List Colour)) (bad : Option BadRows) → length rows ≡ part.sheet.rows
    → AreOfWidth part.sheet.width rows
    → StaysTooLarge (with_source_page part.at (page_of part.sheet rows bad))

abbrev pub HasPart : Output → Part → Type 0
HasPart (Images bytes) part = HasImageRows bytes part
HasPart (File coding writer page) part = HasRowsOnPage coding writer page part
HasPart TooLarge part = BecomesTooLarge part

-- an output has some pages, and of the next one these rows, as wide as its sheet
pub record IsPartWritten (output : Output) (part : Part) : Type 0 where
  pub widths : AreOfWidth part.sheet.width part.rows
  pub has : HasPart output part

-- an output before its first page
abbrev pub IsBeginning : Options → Output → Type 0
IsBeginning options output = IsWrittenTo output (nothing_written options)

-- a page is started
abbrev pub BeginsPage : Options → Output → PageSize → Output → Type 0
BeginsPage options old sheet new =
    (at : Progress) → IsUpcomingPage options old at → IsPartWritten new (no_rows at sheet)

-- a row can be put: it is expected, and it is as wide as the page
pub record TakesRow (output : Output) (row : List Colour) : Type 0 where
  pub part : Part
  pub written : IsPartWritten output part
  pub upcoming : length part.rows < part.sheet.rows
  pub width : length row ≡ part.sheet.width

-- the row is put
abbrev pub PutsRow : Output → List Colour → Output → Type 0
PutsRow old row new =
    (part : Part) → IsPartWritten old part → length part.rows < part.sheet.rows
    → length row ≡ part.sheet.width
    → IsPartWritten new (with_row part row)

-- so many white rows of this width can be put: they are expected
pub record TakesWhiteRows (output : Output) (width count : ℕ) : Type 0 where
  pub part : Part
  pub written : IsPartWritten output part
  pub upcoming : length part.rows + count ≤ part.sheet.rows
  pub width_is : width ≡ part.sheet.width

-- they are put
abbrev pub PutsWhiteRows : Output → ℕ → ℕ → Output → Type 0
PutsWhiteRows old width count new =
    (part : Part) → IsPartWritten old part → length part.rows + count ≤ part.sheet.rows
    → width ≡ part.sheet.width
    → IsPartWritten new (with_rows part (replicate count (white_row width)))

-- all rows of the page were put
pub record HasAllRows (output : Output) : Type 0 where
  pub part : Part
  pub written : IsPartWritten output part
  pub all : length part.rows ≡ part.sheet.rows

-- the page is ended, and these bad rows are said of it
abbrev pub EndsPage : Option BadRows → Output → Output → Type 0
EndsPage bad old new =
    (part : Part) → IsPartWritten old part → length part.rows ≡ part.sheet.rows
    → IsWrittenTo new (after part bad)

-- these rows of a page were put after some pages: where there are none it is not started, and where
-- they are all it is ended
pub record IsPutTo (output : Output) (part : Part) : Type 0 where
  pub none : length part.rows ≡ 0 → IsWrittenTo output part.at
  pub some : 0 < length part.rows → length part.rows < part.sheet.rows → IsPartWritten output part
  pub all : length part.rows ≡ part.sheet.rows → IsWrittenTo output (after part None)

-- row number r of a page can be put after the others, by these options
pub record IsUpcomingRow (options : Options) (output : Output) (r : ℕ) (row : List Colour)
    (part : Part) : Type 0 where
  pub options_are : part.at.options ≡ options
  pub put : IsPutTo output part
  pub count : length part.rows ≡ r
  pub upcoming : r < part.sheet.rows
  pub width : length row ≡ part.sheet.width

-- the bytes are those of all pages, and not too many
pub record IsWhole (at : Progress) (bytes : List ℕ) : Type 0 where
  pub bytes_are : bytes ≡ target_bytes at.options.target at.options at.pages
  pub fits : IsTooLarge at.options.target at.pages bytes → ⊥

abbrev pub FinishesAs : Output → List ℕ → Type 0
FinishesAs output bytes = (at : Progress) → IsWrittenTo output at → IsWhole at bytes

-- all pages are too large
abbrev pub IsRefusedAs : Output → ConvertFault → Type 0
IsRefusedAs output fault =
    (fault ≡ OutputTooLarge)
    × ((at : Progress) → IsWrittenTo output at
    → IsTooLarge at.options.target at.pages (target_bytes at.options.target at.options at.pages))
