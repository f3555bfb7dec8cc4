-- The laws of TIFF files: their chain, their forms, and what is written and read back.
-- A definition without a citation is this project's profile.
use Rattle.std.specs.Prelude.{◌≡◌, ◌≢◌, ℕ, ◌+◌, ◌*◌, ◌<◌, ◌⊎◌, if◌then◌else◌, List, [], ◌∷◌}
use Rattle.std.specs.Prelude.{map, flat_map, ◌==◌, ◌^◌, Option, Some, None}
use Rattle.fax_bits.specs.declared.Colour.{Colour}
use Rattle.fax_bits.specs.Bits.{bits}
use Rattle.fax_rows.specs.Rows.{other}
use Rattle.fax_page.specs.declared.StripFault.{StripFault}
use Rattle.fax_page.specs.laws.Lines.{IsStrip}
use Rattle.fax_files.specs.declared.FileFault.TheVariants.{DirectoryLoop, DirectoryOutside}
use Rattle.fax_files.specs.declared.FileFault.TheVariants.{StripOutside}
use Rattle.fax_files.specs.declared.Cause.{Cause}
use Rattle.fax_files.specs.declared.Cause.TheVariants.{File, Strip}
use Rattle.fax_files.specs.declared.PageForm.{PageForm}
use Rattle.fax_files.specs.declared.Endian.{Endian}
use Rattle.fax_files.specs.Page.{most_pels, most_rows, strip_bytes, strip_form, page}
use Rattle.std.specs.Prelude.{◌≡◌, ℕ, ◌+◌, ◌*◌, ◌≤◌, ◌<◌, ◌⊎◌, false, List, [], ◌∷◌, length, take}
use Rattle.std.specs.Prelude.{drop, slice_index_or, Option, Some, None, Ok, IsTrue, All}
use Rattle.std.specs.List.{AllZip, list_any}
use Rattle.fax_files.specs.declared.FileFault.{FileFault}
use Rattle.fax_files.specs.declared.Endian.TheVariants.{Little}
use Rattle.fax_files.specs.Directory.{ChainRead, Header, header, is_directory, max_file}
use Rattle.fax_files.specs.Directory.{next_offset, number_at, read_chain}
use Rattle.fax_files.specs.views.Page.{IsPageForm}
use Rattle.fax_files.specs.Layout.{four, directory_offset, Written, with_page, WrittenPage, file_of}
use Rattle.fax_files.specs.Layout.{BadRows, with_pages}
use Rattle.fax_files.specs.BadRows.{Received, received}
use Rattle.fax_files.specs.views.Writing.{empty_file}
use Rattle.std.specs.Prelude.{◌≡◌, ◌≤◌, ℕ, ◌+◌, ◌*◌, if◌then◌else◌, List, [], ◌∷◌}
use Rattle.std.specs.Prelude.{◌++◌, length}
use Rattle.std.specs.Option.{ForSome}
use Rattle.fax_files.specs.views.Writing.{ArePagesAfter, with_totals}
use Rattle.fax_files.specs.views.PagesSoFar.{HasAdded}
use Rattle.fax_files.specs.views.Writing.{Writing, with_one_more}

-- From strip s on the page has these strips, each a list of rows. The end is none after the last
-- strip, else StripOutside at a strip's first row or the cause at the row of a strip that is not
-- there. (TIFF 6.0, StripOffsets, StripByteCounts and RowsPerStrip)
abbrev pub AreStrips : Endian → List ℕ → ℕ → PageForm → ℕ → List (List (List Colour)) → Option Cause
    → Type 0
AreStrips endian file q form s [] end =
    ((s ≡ form.strips) × (end ≡ None))
    ⊎ ((s < form.strips) × (strip_bytes endian file q s ≡ None) × (end ≡ Some (File StripOutside)))
AreStrips endian file q form s (rows ∷ strips) end =
    (s < form.strips) × (bytes : List ℕ) × (stop : Option StripFault)
    × (strip_bytes endian file q s ≡ Some bytes)
    × IsStrip (strip_form form s) (bits form.order bytes) rows stop
    × (((stop ≡ None) × AreStrips endian file q form (s + 1) strips end)
    ⊎ ((fault : StripFault) × (stop ≡ Some fault) × (strips ≡ []) × (end ≡ Some (Strip fault))))

-- the strips' rows in order (TIFF 6.0, RowsPerStrip)
abbrev pub joined : List (List (List Colour)) → List (List Colour)
joined strips = flat_map (λ rows. rows) strips

-- rows as they are returned: with colours exchanged where black is coded as white (TIFF 6.0,
-- PhotometricInterpretation)
abbrev pub shown : PageForm → List (List Colour) → List (List Colour)
shown form rows = if form.exchanged then map (map other) rows else rows

-- the rows of the page at q, and the cause at the row after them where they are not all
-- (TIFF 6.0, RowsPerStrip)
pub record ArePageRows (endian : Endian) (file : List ℕ) (q : ℕ) (form : PageForm)
    (rows : List (List Colour)) (end : Option Cause) : Type 0 where
  pub strips : List (List (List Colour))
  pub read : AreStrips endian file q form 0 strips end
  pub rows_are : rows ≡ shown form (joined strips)

-- what a page says that is written so: others stand in the places of its bad rows
-- (RFC 2306, CleanFaxData)
abbrev pub said : Option BadRows → Received
said None = record { bad_rows = None; clean = None; consecutive = None }
said (Some bad) = record {
  bad_rows = Some bad.count;
  clean = Some 1;
  consecutive = Some bad.consecutive;
}

-- a page that can be written: a form within the limits, of which white is 0, with the bytes of each
-- strip, and bad rows whose numbers have 32 bits
pub record IsWritable (written : WrittenPage) : Type 0 where
  pub limits : IsPageForm written.form
  pub exchanged : written.form.exchanged ≡ false
  pub strips : length written.strips ≡ written.form.strips
  pub bad : ForSome written.bad (λ bad. (bad.count < 2 ^ 32) × (bad.consecutive < 2 ^ 32))

-- pages that can be written
abbrev pub AreWritable : List WrittenPage → Type 0
AreWritable [] = Unit {0}
AreWritable (written ∷ pages) = IsWritable written × AreWritable pages

-- the page whose directory stands at q is read as this one: its form, the bytes of each strip, and
-- its bad rows
pub record IsReadAt (file : List ℕ) (q : ℕ) (written : WrittenPage) : Type 0 where
  pub form : page Little file q ≡ Ok written.form
  pub strips : (s : ℕ) → s < written.form.strips
      → strip_bytes Little file q s ≡ Some (slice_index_or written.strips s [])
  pub bad : received Little file q ≡ said written.bad

-- the rows of strips from strip s on, where each strip's bytes hold all of its rows
abbrev pub HoldStripRows : PageForm → ℕ → List (List ℕ) → List (List (List Colour)) → Type 0
HoldStripRows form s [] [] = Unit {0}
HoldStripRows form s [] (rows ∷ lists) = ⊥
HoldStripRows form s (strip ∷ strips) [] = ⊥
HoldStripRows form s (strip ∷ strips) (rows ∷ lists) =
    IsStrip (strip_form form s) (bits form.order strip) rows None
    × HoldStripRows form (s + 1) strips lists

-- a page that is read as it was written has the rows of its strips
abbrev pub WrittenRowsAreRead : Type 0
WrittenRowsAreRead =
    (file : List ℕ) (q : ℕ) (written : WrittenPage) (lists : List (List (List Colour)))
    → IsWritable written → IsReadAt file q written
    → HoldStripRows written.form 0 written.strips lists
    → ArePageRows Little file q written.form (joined lists) None

-- a file whose last link, the four bytes at `link`, is still 0
pub record IsOpen (old : Written) : Type 0 where
  pub inside : old.link + 4 ≤ length old.bytes
  pub zero : take 4 (drop old.link old.bytes) ≡ four 0

-- a page is appended: what stood before keeps its place but for the link, which holds the
-- directory's offset; the directory is whole and the last one; the page is read as it was written
pub record IsAppended (old new : Written) (q : ℕ) (written : WrittenPage) : Type 0 where
  pub link : number_at Little 4 new.bytes old.link ≡ q
  pub kept : (offset n : ℕ) → offset + n ≤ length old.bytes
      → (offset + n ≤ old.link) ⊎ (old.link + 4 ≤ offset)
      → take n (drop offset new.bytes) ≡ take n (drop offset old.bytes)
  pub whole : IsTrue (is_directory Little new.bytes q)
  pub last : next_offset Little new.bytes q ≡ 0
  pub read : IsReadAt new.bytes q written
  pub is_open : IsOpen new

abbrev pub AppendedPagesAreRead : Type 0
AppendedPagesAreRead =
    (old : Written) (total k : ℕ) (written : WrittenPage) → IsOpen old → IsWritable written
    → length (with_page old total k written).bytes ≤ max_file
    → IsAppended old (with_page old total k written)
    (directory_offset (length old.bytes) written.strips) written

-- a file is read as these pages: its chain is the pages' directories and ends properly
pub record IsReadAs (file : List ℕ) (pages : List WrittenPage) : Type 0 where
  pub head : Header
  pub offsets : List ℕ
  pub head_is : header file ≡ Ok head
  pub little : head.endian ≡ Little
  pub chain : read_chain head file ≡ record { offsets = offsets; end = None }
  pub read : AllZip (IsReadAt file) offsets pages

-- the file of some pages, at most 65,535, is read as these pages where it has at most 268,435,456
-- bytes
abbrev pub WrittenFilesAreRead : Type 0
WrittenFilesAreRead =
    (pages : List WrittenPage) → 1 ≤ length pages → length pages ≤ 65535 → AreWritable pages
    → length (file_of pages) ≤ max_file → IsReadAs (file_of pages) pages

-- the fault of the next offset after these directories: it stands among them already, or no whole
-- directory stands there (TIFF 6.0, section 2)
abbrev pub offset_fault : Endian → List ℕ → List ℕ → ℕ → Option FileFault
offset_fault endian file before next_at =
    if list_any (λ q. next_at == q) before then (Some DirectoryLoop)
    else (if is_directory endian file next_at then None else (Some DirectoryOutside))

-- from the next offset on, after these directories, the last one first, the chain goes over these
-- offsets to this end: at an offset of 0, or at one with a fault (TIFF 6.0, section 2)
abbrev pub IsChainFrom : Endian → List ℕ → List ℕ → ℕ → List ℕ → Option FileFault → Type 0
IsChainFrom endian file before next_at [] None = next_at ≡ 0
IsChainFrom endian file before next_at [] (Some fault) =
    (next_at ≢ 0) × (offset_fault endian file before next_at ≡ Some fault)
IsChainFrom endian file before next_at (q ∷ offsets) end =
    (q ≡ next_at) × (next_at ≢ 0) × (offset_fault endian file before next_at ≡ None)
    × IsChainFrom endian file (next_at ∷ before) (next_offset endian file next_at) offsets end

-- the offsets of a file's directories, and the fault that ends them, if any
abbrev pub IsChain : Header → List ℕ → ChainRead → Type 0
IsChain head file chain = IsChainFrom head.endian file [] head.first chain.offsets chain.end

-- a file has one chain of directories, which is the one that is read, at most as many as its bytes
pub record HasOneChain (head : Header) (file : List ℕ) : Type 0 where
  pub is : IsChain head file (read_chain head file)
  pub one : (other : ChainRead) → IsChain head file other → read_chain head file ≡ other
  pub few : length (read_chain head file).offsets ≤ length file

-- each file has (TIFF 6.0, section 2)
abbrev pub FilesHaveOneChain : Type 0
FilesHaveOneChain = (head : Header) (file : List ℕ) → HasOneChain head file

-- the size of a page is within the limits, and its rows lie in its strips, each of which holds
-- some, and each but the last as many as the others (TIFF 6.0, RowsPerStrip)
pub record IsWholeForm (form : PageForm) : Type 0 where
  pub some_width : 1 ≤ form.width
  pub width : form.width ≤ most_pels
  pub some_rows : 1 ≤ form.rows
  pub rows : form.rows ≤ most_rows
  pub some_in_strip : 1 ≤ form.rows_per_strip
  pub enough : form.rows ≤ form.strips * form.rows_per_strip
  pub needed : (s : ℕ) → s < form.strips → s * form.rows_per_strip < form.rows

-- a page that is not refused has such a form (TIFF 6.0, RowsPerStrip)
abbrev pub FormsAreWhole : Type 0
FormsAreWhole = (endian : Endian) (file : List ℕ) (q : ℕ) (form : PageForm)
    → page endian file q ≡ Ok form → IsWholeForm form

-- in a file of bytes it is within all limits of a page's form
abbrev pub FormsAreWithinLimits : Type 0
FormsAreWithinLimits = (endian : Endian) (file : List ℕ) (q : ℕ) (form : PageForm)
    → All (λ byte. byte < 256) file → page endian file q ≡ Ok form → IsPageForm form

-- pages that are written are found by their links, and given another total they are the pages that
-- say that, in as many bytes
pub record TotalsAreTold : Type 0 where
  pub told : (total other : ℕ) (pages : List WrittenPage)
      → let old = with_pages empty_file other 0 pages in length old.bytes < 2 ^ 32
      → ArePagesAfter old.bytes (length pages) 4 old.link
      × (with_totals total (length pages) 4 old.bytes ≡ (with_pages empty_file total 0 pages).bytes)
  pub alike : (total other : ℕ) (pages : List WrittenPage)
      → length (with_pages empty_file total 0 pages).bytes
      ≡ length (with_pages empty_file other 0 pages).bytes

-- a writer that adds pages one after another, from its beginning on, gives the bytes of their file
pub record WritesPageByPage : Type 0 where
  pub begins : (total : ℕ)
      → HasAdded total [] (record { written = empty_file; total = total; added = 0 })
  pub goes_on : (total : ℕ) (pages : List WrittenPage) (old : Writing) (page : WrittenPage)
      → HasAdded total pages old
      → HasAdded total (pages ++ page ∷ []) (with_one_more old page)
  pub finishes : (total : ℕ) (pages : List WrittenPage) (writing : Writing)
      → HasAdded total pages writing → writing.added ≡ writing.total
      → writing.written.bytes ≡ file_of pages
