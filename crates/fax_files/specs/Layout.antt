-- TIFF files as they are written (TIFF 6.0, sections 2, 8, 11 and 12; RFC 2306, profile F).
-- A definition without a citation is this project's profile.
use Rattle.std.specs.Prelude.{ℕ, ◌+◌, ◌*◌, ◌%◌, Bool, if◌then◌else◌, List, [], ◌∷◌, ◌++◌, length}
use Rattle.std.specs.Prelude.{map, take, drop, replicate, flat_map, codes, Option, Some, None}
use Rattle.byteorder.specs.Endian.{little_bytes}
use Rattle.fax_files.specs.Page.{Coding, Mh, Mr, Mmr, fill_order_of, PageForm}
use Rattle.fax_files.specs.declared.tags.TheConstants as Tags
pub use Rattle.fax_files.specs.declared.bad_rows.BadRows.{BadRows}

-- numbers of two and of four bytes, all little-endian
abbrev pub two : ℕ → List ℕ
two n = little_bytes 2 n

abbrev pub four : ℕ → List ℕ
four n = little_bytes 4 n

-- a field of a directory as it is written, with the four bytes of its value
pub record WrittenField : Type 0 where
  pub tag : ℕ
  pub kind : ℕ
  pub count : ℕ
  pub value : List ℕ

abbrev pub field_of : ℕ → ℕ → ℕ → List ℕ → WrittenField
field_of tag kind count value = record { tag = tag; kind = kind; count = count; value = value }

-- its entry of twelve bytes
unfoldable pub field_bytes : WrittenField → List ℕ
field_bytes written = two written.tag ++ two written.kind ++ four written.count ++ written.value

abbrev pub compression_of : Coding → ℕ
compression_of Mh = 3
compression_of Mr = 3
compression_of Mmr = 4

-- T4Options for MH and MR, with bit 2 where EOLs are aligned, T6Options for MMR
abbrev pub options_field : Coding → Bool → WrittenField
options_field Mh aligned = field_of Tags.T4_OPTIONS Tags.LONG 1 (four (if aligned then 4 else 0))
options_field Mr aligned = field_of Tags.T4_OPTIONS Tags.LONG 1 (four (if aligned then 5 else 1))
options_field Mmr aligned = field_of Tags.T6_OPTIONS Tags.LONG 1 (four 0)

-- the strips' offsets, the first of which is `start`
abbrev pub offsets_from : ℕ → List (List ℕ) → List ℕ
offsets_from start [] = []
offsets_from start (strip ∷ strips) = start ∷ offsets_from (start + length strip) strips

-- strip numbers, each a LONG: what their entry has, the number itself where there is one, else
-- where they stand, and what stands there
abbrev pub one_or_offset : List ℕ → ℕ → ℕ
one_or_offset (n ∷ []) offset = n
one_or_offset _ offset = offset

abbrev pub array_bytes : List ℕ → List ℕ
array_bytes (n ∷ []) = []
array_bytes numbers = flat_map four numbers

-- a page to be written: its form, the bytes of its strips, and its bad rows where some are to be
-- said
pub record WrittenPage : Type 0 where
  pub form : PageForm
  pub strips : List (List ℕ)
  pub bad : Option BadRows

-- a page of which no bad rows are said
abbrev pub page_of : PageForm → List (List ℕ) → WrittenPage
page_of form strips = record { form = form; strips = strips; bad = None }

-- the fields that say the bad rows of a page: how many there are, that others stand in their
-- places, and how many came one after another at most
-- (RFC 2306, BadFaxLines, CleanFaxData and ConsecutiveBadFaxLines)
abbrev pub bad_fields : Option BadRows → List WrittenField
bad_fields None = []
bad_fields (Some bad) =
    field_of Tags.BAD_FAX_LINES Tags.LONG 1 (four bad.count)
    ∷ field_of Tags.CLEAN_FAX_DATA Tags.SHORT 1 (two 1 ++ two 0)
    ∷ field_of Tags.CONSECUTIVE_BAD_FAX_LINES Tags.LONG 1 (four bad.consecutive)
    ∷ []

-- how many fields the directory of each page has
abbrev pub form_fields : ℕ
form_fields = 16

-- how many that of a page has which says these bad rows
abbrev pub field_count : Option BadRows → ℕ
field_count bad = form_fields + length (bad_fields bad)

-- how far after a directory's first byte the bytes after so many fields stand: after their number
-- and twelve bytes of each
abbrev pub after_fields : ℕ → ℕ
after_fields count = 2 + 12 * count

-- how far after it its next offset stands
abbrev pub to_link : Option BadRows → ℕ
to_link bad = after_fields (field_count bad)

-- the fields of the directory at q of page k of `total`, of which these two place the strips
abbrev pub fields_with : ℕ → ℕ → ℕ → PageForm → Option BadRows → WrittenField → WrittenField
    → List WrittenField
fields_with q total k form bad offsets byte_counts =
    -- 2: one page of several
    field_of Tags.NEW_SUBFILE_TYPE Tags.LONG 1 (four 2)
    ∷ field_of Tags.IMAGE_WIDTH Tags.LONG 1 (four form.width)
    ∷ field_of Tags.IMAGE_LENGTH Tags.LONG 1 (four form.rows)
    ∷ field_of Tags.BITS_PER_SAMPLE Tags.SHORT 1 (two 1 ++ two 0)
    ∷ field_of Tags.COMPRESSION Tags.SHORT 1 (two (compression_of form.coding) ++ two 0)
    ∷ field_of Tags.PHOTOMETRIC_INTERPRETATION Tags.SHORT 1 (two 0 ++ two 0)
    ∷ field_of Tags.FILL_ORDER Tags.SHORT 1 (two (fill_order_of form.order) ++ two 0)
    ∷ offsets
    ∷ field_of Tags.SAMPLES_PER_PIXEL Tags.SHORT 1 (two 1 ++ two 0)
    ∷ field_of Tags.ROWS_PER_STRIP Tags.LONG 1 (four form.rows_per_strip)
    ∷ byte_counts
    ∷ field_of Tags.X_RESOLUTION Tags.RATIONAL 1 (four (q + (to_link bad + 4)))
    ∷ field_of Tags.Y_RESOLUTION Tags.RATIONAL 1 (four (q + (to_link bad + 12)))
    ∷ options_field form.coding form.aligned
    ∷ field_of Tags.RESOLUTION_UNIT Tags.SHORT 1 (two form.unit ++ two 0)
    ∷ field_of Tags.PAGE_NUMBER Tags.SHORT 2 (two k ++ two total)
    ∷ bad_fields bad

-- the offset of the directory of a page whose strips begin at `start`: the first even one after
-- the strips
abbrev pub directory_offset : ℕ → List (List ℕ) → ℕ
directory_offset start strips =
    let end = start + length (flat_map (λ strip. strip) strips) in end + end % 2

-- what is written of page k of `total` from `start` on: its strips, a zero byte if the offset is
-- odd, its directory, of which the next offset is 0, its resolutions, and the offsets and byte
-- counts if it has more than one strip
unfoldable pub page_bytes : ℕ → ℕ → ℕ → WrittenPage → List ℕ
page_bytes start total k page =
    let form = page.form in
    let all = flat_map (λ strip. strip) page.strips in
    let offsets = offsets_from start page.strips in
    let lengths = map length page.strips in
    let q = directory_offset start page.strips in
    let offset = q + (to_link page.bad + 20) in
    let at_offsets = four (one_or_offset offsets offset) in
    let at_lengths = four (one_or_offset lengths (offset + 4 * length lengths)) in
    let fields = fields_with q total k form page.bad
    (field_of Tags.STRIP_OFFSETS Tags.LONG (length offsets) at_offsets)
    (field_of Tags.STRIP_BYTE_COUNTS Tags.LONG (length lengths) at_lengths) in
    all ++ replicate ((start + length all) % 2) 0
    ++ (two (length fields) ++ flat_map field_bytes fields)
    ++ four 0
    ++ (four form.x.0 ++ four form.x.1 ++ (four form.y.0 ++ four form.y.1) ++ array_bytes offsets
    ++ array_bytes lengths)

-- a file that is being written, and where the offset of the next page's directory stands
pub record Written : Type 0 where
  pub bytes : List ℕ
  pub link : ℕ

-- a file with page k of `total` at its end, to whose directory the last offset leads
unfoldable pub with_page : Written → ℕ → ℕ → WrittenPage → Written
with_page old total k page =
    let offset = directory_offset (length old.bytes) page.strips in
    record {
      bytes = take old.link old.bytes ++ four offset ++ drop (old.link + 4) old.bytes
          ++ page_bytes (length old.bytes) total k page;
      link = offset + to_link page.bad;
    }

-- a file with the pages from page k on at its end
unfoldable pub with_pages : Written → ℕ → ℕ → List WrittenPage → Written
with_pages old total k [] = old
with_pages old total k (page ∷ pages) =
    with_pages (with_page old total k page) total (k + 1) pages

-- the file of these pages, of which the header's first offset is 0 at first
abbrev pub file_of : List WrittenPage → List ℕ
file_of pages =
    let empty : Written = record { bytes = codes "II" ++ two 42 ++ four 0; link = 4 } in
    (with_pages empty (length pages) 0 pages).bytes
