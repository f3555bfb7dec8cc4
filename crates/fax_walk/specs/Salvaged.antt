-- What is left of a damaged file: page after page of its chain, also after one that is refused,
-- each row that is found, and each stretch of rows that are lost.
-- A definition without a citation is this project's profile.
use Rattle.std.specs.Prelude.{◌≡◌, ℕ, ◌+◌, ◌*◌, ◌<◌, Bool, true, false, List, [], ◌∷◌, ◌++◌, map}
use Rattle.std.specs.Prelude.{drop, flat_map, Some, None, Result, Ok, Err, MatchResult}
use Rattle.fax_bits.specs.Bits.{bits}
use Rattle.fax_rows.specs.Rows.{Colour}
use Rattle.fax_page.specs.declared.StripFault.TheVariants.{MissingEol}
use Rattle.fax_page.specs.declared.StripForm.{StripForm}
use Rattle.fax_page.specs.Salvage.{SalvagedRow, found, lost, unended, AreSalvaged, IsSalvagedStrip}
use Rattle.fax_files.specs.declared.FileFault.{FileFault}
use Rattle.fax_files.specs.declared.FileFault.TheVariants.{StripOutside}
use Rattle.fax_files.specs.declared.Endian.{Endian}
use Rattle.fax_files.specs.Directory.{header, read_chain}
use Rattle.fax_files.specs.BytesInside.{bytes_inside}
use Rattle.fax_files.specs.Page.{page, strip_bytes, strip_form}
use Rattle.fax_walk.specs.Pages.{Cause, File, Strip, FilePage, PageForm}
use Rattle.fax_walk.specs.Items.{StripPosition, exchanged}

-- a row of a page: it is found, with these pels, or lost, for this cause
abbrev pub PageRow : Type 0
PageRow = Result (List Colour) Cause

-- what becomes of a row of a strip, as a row of its page: where the strip does not lie wholly in
-- the file, each row that is lost is lost for that
abbrev pub on_page : PageForm → Bool → SalvagedRow → PageRow
on_page form whole (found row) = Ok (exchanged form row)
on_page form true (lost fault) = Err (Strip fault)
on_page form true (unended row) = Err (Strip MissingEol)
on_page form false (lost fault) = Err (File StripOutside)
on_page form false (unended row) = Err (File StripOutside)

-- the bytes of strip s that the file has, and whether these are all of them
-- (TIFF 6.0, StripOffsets and StripByteCounts)
abbrev pub strip_left : FilePage → List ℕ → ℕ → List ℕ × Bool
strip_left here file s = elim (strip_bytes here.endian file here.offset s) [
  | Some bytes ↦ (bytes, true)
  | None ↦ (bytes_inside here.endian file here.offset s, false)
]

-- what is left of strip s of a page
abbrev pub IsStripLeft : List ℕ → FilePage → ℕ → List PageRow → Type 0
IsStripLeft file here s rows =
    let remaining = strip_left here file s in
    (own : List SalvagedRow)
    × IsSalvagedStrip (strip_form here.form s) (bits here.form.order remaining.0) own
    × (rows ≡ map (on_page here.form remaining.1) own)

-- what is left of a page from strip s on: the rows of each strip (TIFF 6.0, RowsPerStrip)
abbrev pub AreStripsLeft : List ℕ → FilePage → ℕ → List (List PageRow) → Type 0
AreStripsLeft file here s [] = s ≡ here.form.strips
AreStripsLeft file here s (rows ∷ strips) =
    (s < here.form.strips) × IsStripLeft file here s rows × AreStripsLeft file here (s + 1) strips

-- the remaining rows of a page: those of all its strips
abbrev pub AreRowsOfPage : List ℕ → FilePage → List PageRow → Type 0
AreRowsOfPage file here rows =
    (strips : List (List PageRow)) × AreStripsLeft file here 0 strips
    × (rows ≡ flat_map (λ rows. rows) strips)

-- row r of a page is row i of strip s (TIFF 6.0, RowsPerStrip)
pub record IsRowOfStrip (form : PageForm) (r s i : ℕ) : Type 0 where
  pub strip : s < form.strips
  pub row : i < (strip_form form s).rows
  pub place : r ≡ s * form.rows_per_strip + i

-- what is left of a page from row i of strip s on, where it is read after so many bits of the
-- strip and over this row, which is not lost: the rows of the strip from there on, and those of the
-- strips after it
abbrev pub AreRowsFrom : List ℕ → FilePage → ℕ → ℕ → StripPosition → List PageRow → Type 0
AreRowsFrom file here s i at rows =
    let remaining = strip_left here file s in
    (own : List SalvagedRow) × (strips : List (List PageRow))
    × AreSalvaged (strip_form here.form s) i None at.reference
    (drop at.bits (bits here.form.order remaining.0)) own
    × AreStripsLeft file here (s + 1) strips
    × (rows ≡ map (on_page here.form remaining.1) own ++ flat_map (λ rows. rows) strips)

-- what becomes of a row of a strip with no file around it
abbrev pub strip_row : SalvagedRow → PageRow
strip_row (found row) = Ok row
strip_row (lost fault) = Err (Strip fault)
strip_row (unended row) = Err (Strip MissingEol)

-- the remaining rows of a strip with no file around it
abbrev pub AreRowsOfStrip : StripForm → List Bool → List PageRow → Type 0
AreRowsOfStrip form b rows =
    (own : List SalvagedRow) × IsSalvagedStrip form b own × (rows ≡ map strip_row own)

-- what is returned of a file in order: row r of page p, which is found; so many rows of page p from
-- row r on, which are lost, with the cause of the first; a page that is refused
pub data SalvagedItem : Type 0 where
  row_found : ℕ → ℕ → List Colour → SalvagedItem
  rows_lost : ℕ → ℕ → ℕ → Cause → SalvagedItem
  page_refused : ℕ → FileFault → SalvagedItem

-- row r of page p is lost for this cause, before these items: it is one stretch with the rows that
-- are lost after it
abbrev pub lost_before : ℕ → ℕ → Cause → List SalvagedItem → List SalvagedItem
lost_before p r cause (rows_lost _ _ count _ ∷ items) = rows_lost p r (count + 1) cause ∷ items
lost_before p r cause items = rows_lost p r 1 cause ∷ items

-- the rows of page p from row r on, as they are returned
abbrev pub page_items : ℕ → ℕ → List PageRow → List SalvagedItem
page_items p r [] = []
page_items p r (Ok row ∷ rows) = row_found p r row ∷ page_items p (r + 1) rows
page_items p r (Err cause ∷ rows) = lost_before p r cause (page_items p (r + 1) rows)

-- what is returned of page p, whose directory stands at offset q, with the form or the fault that
-- its fields give
abbrev pub IsPageLeftAs : Endian → List ℕ → ℕ → ℕ → Result PageForm FileFault → List SalvagedItem
    → Type 0
IsPageLeftAs endian file p q (Err fault) items = items ≡ page_refused p fault ∷ []
IsPageLeftAs endian file p q (Ok form) items =
    let here : FilePage = record { endian = endian; offset = q; form = form } in
    (strips : List (List PageRow)) × AreStripsLeft file here 0 strips
    × (items ≡ page_items p 0 (flat_map (λ rows. rows) strips))

-- what is returned from page p on, where the directories from there on stand at these offsets
abbrev pub ArePagesLeft : Endian → List ℕ → ℕ → List ℕ → List SalvagedItem → Type 0
ArePagesLeft endian file p [] items = items ≡ []
ArePagesLeft endian file p (q ∷ offsets) items =
    (own others : List SalvagedItem) × IsPageLeftAs endian file p q (page endian file q) own
    × ArePagesLeft endian file (p + 1) offsets others × (items ≡ own ++ others)

-- what is left of a file; of one without a good header nothing
abbrev pub IsSalvaged : List ℕ → List SalvagedItem → Type 0
IsSalvaged file items =
    MatchResult (header file)
    (λ head. ArePagesLeft head.endian file 0 (read_chain head file).offsets items)
    (λ fault. items ≡ [])
