-- Laws of written files, which the functions of the module `laws` prove.
-- A definition without a citation is this project's profile.
use Rattle.std.specs.Prelude.{◌≡◌, ◌≢◌, ℕ, ◌+◌, ◌^◌, ◌<◌, ◌≤◌, true, List, [], ◌∷◌, ◌++◌, length}
use Rattle.std.specs.Prelude.{map}
use Rattle.std.specs.Prelude.{All}
use Rattle.std.specs.List.{AllZip}
use Rattle.std.specs.Option.{ForSome}
use Rattle.fax_bits.specs.declared.Colour.{Colour}
use Rattle.fax_page.specs.declared.Coding.{Coding}
use Rattle.fax_page.specs.declared.Coding.TheVariants.{Mmr}
use Rattle.fax_files.specs.views.Page.{IsGoodRational}
use Rattle.fax_files.specs.laws.TiffFiles.{joined}
use Rattle.fax_files.specs.laws.Pbm.{IsWritableImage}
use Rattle.fax_files.specs.Layout.{WrittenPage, file_of}
use Rattle.fax_files.specs.Directory.{max_file}
use Rattle.fax_files.specs.laws.TiffFiles.{HoldStripRows, AreWritable}
use Rattle.fax_walk.specs.declared.end.End.TheVariants.{EndOfPages}
use Rattle.fax_walk.specs.declared.options.Options.{Options}
use Rattle.fax_walk.specs.Converted.{SourcePage, most_pages, written_page}
use Rattle.fax_walk.specs.Pages.{AreForms, FormItem}
use Rattle.fax_walk.specs.Items.{AreItems, RowItem}

-- a row with its page and its number there, both from 0
pub record WalkedRow : Type 0 where
  pub page : ℕ
  pub row : ℕ
  pub pels : List Colour

-- an item, without its place in the bits of its strip
abbrev pub walked : RowItem → WalkedRow
walked item = record { page = item.page; row = item.row; pels = item.pels }

-- rows of page p, from row r on
abbrev pub numbered : ℕ → ℕ → List (List Colour) → List WalkedRow
numbered p r [] = []
numbered p r (row ∷ rows) = record { page = p; row = r; pels = row } ∷ numbered p (r + 1) rows

-- the strips of a page hold these rows, each strip all of its own (TIFF 6.0, RowsPerStrip)
abbrev pub HoldsPageRows : WrittenPage → List (List Colour) → Type 0
HoldsPageRows written rows =
    (lists : List (List (List Colour))) × HoldStripRows written.form 0 written.strips lists
    × (rows ≡ joined lists)

-- the rows of pages with their places, page by page from page p on
abbrev pub rows_of : ℕ → List (List (List Colour)) → List WalkedRow
rows_of p [] = []
rows_of p (rows ∷ pages) = numbered p 0 rows ++ rows_of (p + 1) pages

-- the forms of pages, from page p on
abbrev pub forms_of : ℕ → List WrittenPage → List FormItem
forms_of p [] = []
forms_of p (written ∷ pages) = record { page = p; form = written.form } ∷ forms_of (p + 1) pages

-- the items of a file are these rows, page by page, its forms those of these pages, and both end
-- properly
pub record IsWalkedAs (file : List ℕ) (pages : List WrittenPage)
    (rows : List (List (List Colour))) : Type 0 where
  pub items : List RowItem
  pub are : AreItems file items EndOfPages
  pub rows_are : map walked items ≡ rows_of 0 rows
  pub forms : AreForms file (forms_of 0 pages) EndOfPages

-- the file of some pages, at most 65,535, whose strips hold these rows, has these rows and forms
-- where it has at most 268,435,456 bytes
abbrev pub WrittenFilesAreWalked : Type 0
WrittenFilesAreWalked =
    (pages : List WrittenPage) (rows : List (List (List Colour))) → 1 ≤ length pages
    → length pages ≤ most_pages
    → AreWritable pages → AllZip HoldsPageRows pages rows → length (file_of pages) ≤ max_file
    → IsWalkedAs (file_of pages) pages rows

-- a page that can be written: its image and its resolution are within the limits, and the numbers
-- of
-- its bad rows have 32 bits
pub record IsWritableSource (source : SourcePage) : Type 0 where
  pub image : IsWritableImage source.image
  pub x : IsGoodRational source.resolution.x
  pub y : IsGoodRational source.resolution.y
  pub some_unit : 1 ≤ source.resolution.unit
  pub unit : source.resolution.unit ≤ 3
  pub bad : ForSome source.bad (λ bad. (bad.count < 2 ^ 32) × (bad.consecutive < 2 ^ 32))

-- the pages as they are written in this coding (TIFF 6.0; RFC 2306)
abbrev pub written_pages : Options → Coding → List SourcePage → List WrittenPage
written_pages options coding pages = map (written_page options coding) pages

-- the file of some pages, at most 65,535, written in any coding with any strip height and k, and in
-- MH and MR with aligned EOLs or not, has their rows and forms where it has at most 268,435,456
-- bytes
abbrev pub CodedFilesAreWalked : Type 0
CodedFilesAreWalked =
    (options : Options) (coding : Coding) (pages : List SourcePage)
    → ForSome options.strip (λ rows. 0 < rows)
    → (options.aligned ≡ true → coding ≢ Mmr) → 1 ≤ length pages → length pages ≤ most_pages
    → All IsWritableSource pages
    → length (file_of (written_pages options coding pages)) ≤ max_file
    → IsWalkedAs (file_of (written_pages options coding pages)) (written_pages options coding pages)
    (map (λ source. source.image.rows) pages)
