-- A page that stands written in a file is read as it was written.
use Rattle.std.proofs.Common.{◌≡◌, ◌≢◌, ℕ, ◌+◌, ◌-◌, ◌*◌, ◌/◌, ◌%◌, ◌^◌, ◌<◌, ◌≤◌, Option, None, Bool, true}
use Rattle.std.proofs.Common.{false, List, [], ◌∷◌}
use Rattle.std.proofs.Common.{◌++◌, length, get_or, Some, Result, Ok, refl, sym, ap, ◌∙◌, arith}
use Rattle.std.proofs.lemmas.List.{length-append}
use Rattle.std.proofs.lemmas.Bool.{le-leb, lt-ltb, ne_eqb}
use Rattle.std.specs.Prelude.{flat_map, nat_lt, IsOk, ◌==◌, min, if◌then◌else◌}
use Rattle.std.specs.Option.{ForSome}
use Rattle.fax_bits.specs.declared.FillOrder.{FillOrder}
use Rattle.fax_bits.specs.declared.FillOrder.TheVariants.{MsbFirst, LsbFirst}
use Rattle.fax_page.specs.declared.Coding.{Coding}
use Rattle.fax_page.specs.declared.Coding.TheVariants.{Mh, Mr, Mmr}
use Rattle.fax_files.specs.declared.FileFault.{FileFault}
use Rattle.fax_files.specs.Directory.{Entry, is_inside, number_at, scalar, ◌>>=◌, entries, is_directory, next_offset}
use Rattle.fax_files.specs.declared.FileFault.TheVariants.{BadField, OutOfLimits, Unsupported}
use Rattle.fax_files.specs.code.Entries.{entry_count}
use Rattle.fax_files.specs.declared.Endian.TheVariants.{Little}
use Rattle.fax_files.specs.declared.PageForm.{PageForm}
use Rattle.fax_files.specs.Page.{fill_order_of, form_in, is_between, most_pels, most_rows, page, strip_bytes}
use Rattle.fax_files.specs.code.Steps.{resolution_in}
use Rattle.fax_files.specs.Layout.{to_link, two, WrittenField, field_bytes, compression_of, options_field, offsets_from}
use Rattle.fax_files.specs.Layout.{array_bytes, one_or_offset}
use Rattle.fax_files.specs.Layout.{BadRows, WrittenPage, bad_fields, field_count, fields_with}
use Rattle.fax_files.specs.BadRows.{optional_scalar, received}
use Rattle.fax_files.specs.code.PageParts.{to_x, to_y, to_offsets, long_field, short_field, lengths_of}
use Rattle.fax_files.specs.code.PageParts.{rational_bytes, fields_of}
use Rattle.fax_files.specs.code.PageParts.{fields_bytes, values_bytes, joined_strips}
use Rattle.fax_files.specs.laws.TiffFiles.{IsWritable, IsReadAt, said}
use Rattle.fax_files.proofs.FileOffsetLemmas.{HasBytesAt, at_offset, at_left, at_right, at_inside, number_there}
use Rattle.fax_files.proofs.WrittenFieldLemmas.{AllFit, length-fields, read_fields, HasValues, written_field}
use Rattle.fax_files.proofs.WrittenFieldLemmas.{entries_there, no_field}
use Rattle.fax_files.proofs.WrittenFieldLemmas.{long_read, short_read, rational_back}
use Rattle.fax_files.proofs.WrittenStripLemmas.{ArrayThere, array_back, array_checked, array_is_longs, length-longs}
use Rattle.fax_files.proofs.WrittenStripLemmas.{length-offsets_from}
use Rattle.fax_files.proofs.WrittenStripLemmas.{length-lengths_of, strip_there}
use Rattle.fax_files.proofs.PageFormLemmas.{after_form, page_is, strip_is_placed}
use Rattle.fax_files.specs.declared.tags.TheConstants as Tags

-- the fields of page k of `total`, of which the strips begin at `start` and the directory stands at
-- q
abbrev pub page_fields : ℕ → ℕ → ℕ → ℕ → WrittenPage → List WrittenField
page_fields q start total k written =
    fields_of q total k written.form written.bad (offsets_from start written.strips) (lengths_of written.strips)

-- what stands in a file of a page that was written: all of it but the offset of the next directory
pub record IsPageAt (file : List ℕ) (q start total k : ℕ) (written : WrittenPage) : Type 0 where
  pub fields : HasBytesAt file q (fields_bytes (page_fields q start total k written))
  pub values : HasBytesAt file (q + to_x written.bad) (values_bytes written.form (offsets_from start written.strips)
      (lengths_of written.strips))
  pub strips : HasBytesAt file start (joined_strips written.strips)

-- the last fields
abbrev last_fields : ℕ → ℕ → PageForm → Option BadRows → List WrittenField
last_fields total k form bad =
    short_field Tags.RESOLUTION_UNIT form.unit
    ∷ record { tag = Tags.PAGE_NUMBER; kind = Tags.SHORT; count = 2; value = two k ++ two total } ∷ bad_fields bad

-- T4Options of rows that are coded so
abbrev options_number : Coding → Bool → ℕ
options_number Mh true = 4
options_number Mh false = 0
options_number Mr true = 5
options_number Mr false = 1
options_number Mmr aligned = 0

-- T4Options among fields, of which the one for options is the only one with its tag
options_from : (coding : Coding) (aligned : Bool) (file : List ℕ) (offset : ℕ) (fields : List WrittenField)
    → HasValues file offset fields
    → written_field fields Tags.T4_OPTIONS ≡ written_field (options_field coding aligned ∷ []) Tags.T4_OPTIONS
    → (if compression_of coding == 4 then (Ok 0)
    else (scalar Little file (read_fields offset fields) Tags.T4_OPTIONS (Some 0) (λ _. true) BadField))
    ≡ Ok (options_number coding aligned)
options_from Mh true file offset fields values found =
    long_read file offset Tags.T4_OPTIONS 4 fields values (Some 0) _ BadField refl found (omega arith)
options_from Mh false file offset fields values found =
    long_read file offset Tags.T4_OPTIONS 0 fields values (Some 0) _ BadField refl found (omega arith)
options_from Mr true file offset fields values found =
    long_read file offset Tags.T4_OPTIONS 5 fields values (Some 0) _ BadField refl found (omega arith)
options_from Mr false file offset fields values found =
    long_read file offset Tags.T4_OPTIONS 1 fields values (Some 0) _ BadField refl found (omega arith)
options_from Mmr aligned file offset fields values found = refl

-- they say how the rows are coded
coding_back : (coding : Coding) (aligned : Bool)
    → (if compression_of coding == 4 then Mmr else (if options_number coding aligned % 2 == 1 then Mr else Mh)) ≡ coding
coding_back coding aligned = grind arith

aligned_back : (coding : Coding) (aligned : Bool) → (aligned ≡ true → coding ≢ Mmr)
    → (options_number coding aligned / 4 % 2 == 1) ≡ aligned
aligned_back coding aligned has_eols = grind arith

-- which it is
options_found : (coding : Coding) (aligned : Bool) (total k : ℕ) (form : PageForm) (bad : Option BadRows)
    → written_field (options_field coding aligned ∷ last_fields total k form bad) Tags.T4_OPTIONS
    ≡ written_field (options_field coding aligned ∷ []) Tags.T4_OPTIONS
options_found Mh aligned total k form bad = refl
options_found Mr aligned total k form bad = refl
options_found Mmr aligned total k form None = refl
options_found Mmr aligned total k form (Some bad) = refl

unit_found : (coding : Coding) (aligned : Bool) (total k : ℕ) (form : PageForm) (bad : Option BadRows)
    → written_field (options_field coding aligned ∷ last_fields total k form bad) Tags.RESOLUTION_UNIT
    ≡ Some (short_field Tags.RESOLUTION_UNIT form.unit)
unit_found Mh aligned total k form bad = refl
unit_found Mr aligned total k form bad = refl
unit_found Mmr aligned total k form bad = refl

-- the fields of bad rows stand after all others
bad_found : (coding : Coding) (aligned : Bool) (total k tag : ℕ) (form : PageForm) (bad : Option BadRows)
    → 326 ≤ tag
    → written_field (options_field coding aligned ∷ last_fields total k form bad) tag
    ≡ written_field (bad_fields bad) tag
bad_found coding aligned total k tag form bad after = grind (arith, ne_eqb)

compression_small : (coding : Coding) → compression_of coding < 65536
compression_small coding = grind arith

compression_known : (coding : Coding) → is_between 3 4 (compression_of coding) ≡ true
compression_known coding = grind arith

order_small : (order : FillOrder) → fill_order_of order < 65536
order_small order = grind arith

order_known : (order : FillOrder) → is_between 1 2 (fill_order_of order) ≡ true
order_known order = grind arith

order_back : (order : FillOrder) → (if fill_order_of order == 2 then LsbFirst else MsbFirst) ≡ order
order_back order = grind arith

bad_fit : (bad : Option BadRows) → AllFit (bad_fields bad)
bad_fit None = tt
bad_fit (Some bad) = grind arith

-- how many fields a page has
pub fields_counted : (q total k : ℕ) (form : PageForm) (bad : Option BadRows) (offsets byte_counts : WrittenField)
    → length (fields_with q total k form bad offsets byte_counts) ≡ field_count bad
fields_counted q total k form None offsets byte_counts = refl
fields_counted q total k form (Some bad) offsets byte_counts = refl

page_counted : (q start total k : ℕ) (written : WrittenPage)
    → length (page_fields q start total k written) ≡ field_count written.bad
page_counted q start total k written =
    let offsets = offsets_from start written.strips in
    let lengths = lengths_of written.strips in
    let at = q + to_offsets written.bad in
    fields_counted q total k written.form written.bad
    (long_field Tags.STRIP_OFFSETS (length offsets) (one_or_offset offsets at))
    (long_field Tags.STRIP_BYTE_COUNTS (length lengths) (one_or_offset lengths (at + 4 * length lengths)))

pub few_fields : (bad : Option BadRows) → field_count bad < 65536
few_fields None = omega arith
few_fields (Some bad) = omega arith

pub page_fits : (q start total k : ℕ) (written : WrittenPage) → length written.strips < 4294967296
    → AllFit (page_fields q start total k written)
page_fits q start total k written few = grind (arith, length-offsets_from, length-lengths_of, bad_fit)

pub length-page_fields : (q start total k : ℕ) (written : WrittenPage) → length written.strips < 4294967296
    → length (fields_bytes (page_fields q start total k written)) ≡ to_link written.bad
length-page_fields q start total k written few =
    let fields = page_fields q start total k written in
    omega (
      arith,
      length-append (two (length fields)) (flat_map field_bytes fields),
      page_counted q start total k written,
      length-fields fields
          (page_fits q start total k written few),
    )

-- a page that can be written has fewer strips than that
pub few_strips : (written : WrittenPage) → IsWritable written → length written.strips < 4294967296
few_strips written w = grind arith

-- the number of entries
count_there : (file : List ℕ) (q start total k : ℕ) (written : WrittenPage) → IsPageAt file q start total k written
    → entry_count Little file q ≡ field_count written.bad
count_there file q start total k written here =
    let fields = page_fields q start total k written in
    let count = page_counted q start total k written in
    number_there 2 (at_left (two (length fields)) (flat_map field_bytes fields) here.fields)
    (omega (arith, count, few_fields written.bad))
    ∙ count

-- the parts of what stands after a directory
record ValuesThere (file : List ℕ) (q : ℕ) (form : PageForm) (bad : Option BadRows) (offsets lengths : List ℕ)
    : Type 0 where
  x : HasBytesAt file (q + to_x bad) (rational_bytes form.x)
  y : HasBytesAt file (q + to_y bad) (rational_bytes form.y)
  offsets_there : HasBytesAt file (q + to_offsets bad) (array_bytes offsets)
  lengths_there : HasBytesAt file (q + to_offsets bad + length (array_bytes offsets)) (array_bytes lengths)

values_there : (file : List ℕ) (q : ℕ) (form : PageForm) (bad : Option BadRows) (offsets lengths : List ℕ)
    → HasBytesAt file (q + to_x bad) (values_bytes form offsets lengths)
    → ValuesThere file q form bad offsets lengths
values_there file q form bad offsets lengths h =
    let x = rational_bytes form.x in
    let y = rational_bytes form.y in
    let front = at_left (x ++ y ++ array_bytes offsets) (array_bytes lengths) h in
    record {
      x = at_left x y (at_left (x ++ y) (array_bytes offsets) front);
      y = at_offset (omega arith) (at_right x y (at_left (x ++ y) (array_bytes offsets) front));
      offsets_there = at_offset (omega arith) (at_right (x ++ y) (array_bytes offsets) front);
      lengths_there = at_offset (omega (arith, length-append (x ++ y) (array_bytes offsets)))
          (at_right (x ++ y ++ array_bytes offsets) (array_bytes lengths) h);
    }

pub some_strips : (written : WrittenPage) → IsWritable written → 1 ≤ length written.strips
some_strips written w = grind arith

-- the step that checks an entry continues
checked_on : {B : Type 0} (r : Result Entry FileFault) (next : Result B FileFault) → IsOk r → (r >>= λ _. next) ≡ next
checked_on r next ok = grind arith

-- what is known of a page that stands in a file
pub record Standing (file : List ℕ) (q start total k : ℕ) (written : WrittenPage) : Type 0 where
  pub small : length file < 4294967296
  pub writable : IsWritable written
  pub here : IsPageAt file q start total k written

module _ (file : List ℕ) (q start total k : ℕ) (written : WrittenPage) (known : Standing file q start total k written)
  where
    -- its fields as they were written, and its entries as they are read
    abbrev fields : List WrittenField
    fields = page_fields q start total k written

    abbrev entries_read : List Entry
    entries_read = read_fields (q + 2) fields

    what_is_read : (entries Little file q ≡ entries_read) × HasValues file (q + 2) fields
    what_is_read =
        let after = at_right (two (length fields)) (flat_map field_bytes fields) known.here.fields in
        let read = entries_there file (q + 2) fields (page_fits q start total k written (few_strips written
        known.writable)) after in (
          rw (count_there file q start total k written known.here, sym (page_counted q start total k written)) read.0,
          read.1,
        )

    values : HasValues file (q + 2) fields
    values = what_is_read.1

    abbrev long : (tag n : ℕ) (absent : Option ℕ) (test : ℕ → Bool) (fault : ℕ → FileFault) → test n ≡ true
        → written_field fields tag ≡ Some (long_field tag 1 n) → n < 4294967296
        → scalar Little file entries_read tag absent test fault ≡ Ok n
    long tag n absent test fault passes = long_read file (q + 2) tag n fields values absent test fault passes

    abbrev short : (tag n : ℕ) (absent : Option ℕ) (test : ℕ → Bool) (fault : ℕ → FileFault) → test n ≡ true
        → written_field fields tag ≡ Some (short_field tag n) → n < 65536
        → scalar Little file entries_read tag absent test fault ≡ Ok n
    short tag n absent test fault passes = short_read file (q + 2) tag n fields values absent test fault passes

    between : (low high n : ℕ) → low ≤ n → n ≤ high → is_between low high n ≡ true
    between low high n above below = grind arith

    parts : ValuesThere file q written.form written.bad (offsets_from start written.strips) (lengths_of written.strips)
    parts = values_there file q written.form written.bad (offsets_from start written.strips) (lengths_of written.strips)
        known.here.values

    resolution_there : resolution_in Little file entries_read ≡ record
        { x = written.form.x; y = written.form.y; unit = written.form.unit }
    resolution_there =
        let w = known.writable in
        let inside = at_inside (rational_bytes written.form.y) parts.y in
        let x = rational_back file (q + 2) Tags.X_RESOLUTION (q + to_x written.bad) written.form.x fields values refl
        (omega (arith, inside, known.small))
        w.limits.x parts.x in
        let y = rational_back file (q + 2) Tags.Y_RESOLUTION (q + to_y written.bad) written.form.y fields values refl
        (omega (arith, inside, known.small))
        w.limits.y parts.y in
        let unit = short Tags.RESOLUTION_UNIT written.form.unit (Some 2) (is_between 1 3) Unsupported
        (between 1 3 written.form.unit w.limits.some_unit w.limits.unit)
        (unit_found written.form.coding written.form.aligned total k written.form written.bad) (omega (
          arith,
          w.limits.unit,
        )) in
        rw (x, y, unit) refl

    offsets_there : ArrayThere file entries_read Tags.STRIP_OFFSETS (offsets_from start written.strips)
    offsets_there =
        let some = some_strips written known.writable in
        array_back file (q + 2) Tags.STRIP_OFFSETS (q + to_offsets written.bad) (offsets_from start written.strips)
        fields values
        refl
        (omega (arith, some, length-offsets_from start written.strips)) known.small (λ _. parts.offsets_there)

    lengths_there : ArrayThere file entries_read Tags.STRIP_BYTE_COUNTS (lengths_of written.strips)
    lengths_there =
        let offsets = offsets_from start written.strips in
        let lengths = lengths_of written.strips in
        let offsets_len = length-offsets_from start written.strips in
        let lengths_len = length-lengths_of written.strips in
        let some = some_strips written known.writable in
        let offset : 2 ≤ length lengths → q + to_offsets written.bad + length (array_bytes offsets)
        ≡ q + to_offsets written.bad + 4 * length lengths =
        λ many. omega (
          arith,
          many,
          ap length (array_is_longs offsets (omega (arith, many, offsets_len, lengths_len))),
          length-longs offsets,
          offsets_len,
          lengths_len,
        ) in
        array_back file (q + 2) Tags.STRIP_BYTE_COUNTS (q + to_offsets written.bad + 4 * length lengths) lengths fields
        values refl
        (omega (arith, some, lengths_len)) known.small (λ many. at_offset (offset many) parts.lengths_there)

    -- so the page has the form that was written
    fields_there : form_in Little file entries_read ≡ Ok written.form
    unfolding form_in
    fields_there =
        let form = written.form in
        let limits = known.writable.limits in
        let width = long Tags.IMAGE_WIDTH form.width None (is_between 1 most_pels) OutOfLimits
        (between 1 most_pels form.width limits.some_width limits.width) refl (omega (arith, limits.width)) in
        let rows = long Tags.IMAGE_LENGTH form.rows None (is_between 1 most_rows) OutOfLimits
        (between 1 most_rows form.rows limits.some_rows limits.rows) refl (omega (arith, limits.rows)) in
        let bits = short Tags.BITS_PER_SAMPLE 1 (Some 1) (is_between 1 1) Unsupported refl refl (omega arith) in
        let compression = short Tags.COMPRESSION (compression_of form.coding) None (is_between 3 4) Unsupported
        (compression_known form.coding)
        refl (compression_small form.coding) in
        let white = short Tags.PHOTOMETRIC_INTERPRETATION 0 None (is_between 0 1) Unsupported refl refl (omega arith) in
        let order = short Tags.FILL_ORDER (fill_order_of form.order) (Some 1) (is_between 1 2) Unsupported
        (order_known form.order) refl
        (order_small form.order) in
        let samples = short Tags.SAMPLES_PER_PIXEL 1 (Some 1) (is_between 1 1) Unsupported refl refl (omega arith) in
        let in_strip = long Tags.ROWS_PER_STRIP form.rows_per_strip (Some (2 ^ 32 - 1)) (nat_lt 0) BadField
        (lt-ltb _ _ limits.some_rows_per_strip) refl (omega (arith, limits.rows_per_strip, limits.rows)) in
        let options = options_from form.coding form.aligned file (q + 2) fields values
        (options_found form.coding form.aligned total k form written.bad) in
        let least : min form.rows_per_strip form.rows ≡ form.rows_per_strip = omega (arith, limits.rows_per_strip) in
        rw (
          width,
          rows,
          bits,
          compression,
          white,
          order,
          samples,
          in_strip,
          options,
          resolution_there,
          coding_back form.coding form.aligned,
          aligned_back form.coding form.aligned limits.aligned,
          order_back form.order,
          least,
          sym limits.strips,
          sym known.writable.exchanged,
        ) refl

    form_there : page Little file q ≡ Ok written.form
    form_there =
        let w = known.writable in
        let strips = written.form.strips in
        let offsets = array_checked file entries_read Tags.STRIP_OFFSETS strips _ offsets_there
        (sym w.strips ∙ sym (length-offsets_from start written.strips)) in
        let lengths = array_checked file entries_read Tags.STRIP_BYTE_COUNTS strips _ lengths_there
        (sym w.strips ∙ sym (length-lengths_of written.strips)) in
        page_is Little file q ∙ rw (after_form, what_is_read.0, fields_there)
        (checked_on _ _ offsets ∙ checked_on _ _ lengths)

    -- and each strip the bytes that were written
    strip_back : (s : ℕ) → s < written.form.strips → strip_bytes Little file q s ≡ Some (get_or written.strips s [])
    strip_back s lt =
        strip_is_placed Little file q s ∙ rw what_is_read.0
        (strip_there file start entries_read written.strips s (omega (arith, lt, known.writable.strips)) known.small
        known.here.strips
        offsets_there lengths_there)

    -- and its bad rows are read
    absent_there : (tag : ℕ) → written_field fields tag ≡ None → optional_scalar Little file entries_read tag ≡ None
    unfolding scalar
    absent_there tag none = rw (optional_scalar, scalar, no_field file (q + 2) tag fields none) refl

    bad_of : (bad : Option BadRows) → written.bad ≡ bad
        → ForSome bad (λ bad. (bad.count < 4294967296) × (bad.consecutive < 4294967296))
        → received Little file q ≡ said bad
    unfolding received
    bad_of None is small =
        let none = λ (tag : ℕ) (after : 326 ≤ tag). bad_found written.form.coding written.form.aligned total k tag
        written.form written.bad after ∙ ap (λ b. written_field (bad_fields b) tag) is in
        rw (
          what_is_read.0,
          absent_there Tags.BAD_FAX_LINES (none 326 (omega arith)),
          absent_there Tags.CLEAN_FAX_DATA (none 327 (omega arith)),
          absent_there Tags.CONSECUTIVE_BAD_FAX_LINES (none 328 (omega arith)),
        ) refl
    bad_of (Some bad) is small =
        let found = λ (tag : ℕ) (after : 326 ≤ tag). bad_found written.form.coding written.form.aligned total k tag
        written.form written.bad after ∙ ap (λ b. written_field (bad_fields b) tag) is in
        let count = long Tags.BAD_FAX_LINES bad.count None (λ _. true) BadField refl (found 326 (omega arith)) (small
        bad refl).0 in
        let clean = short Tags.CLEAN_FAX_DATA 1 None (λ _. true) BadField refl (found 327 (omega arith)) (omega arith)
        in
        let consecutive = long Tags.CONSECUTIVE_BAD_FAX_LINES bad.consecutive None (λ _. true) BadField refl
        (found 328 (omega arith)) (small bad refl).1 in
        rw (what_is_read.0, optional_scalar, count, clean, consecutive) refl

    bad_there : received Little file q ≡ said written.bad
    bad_there = bad_of written.bad refl known.writable.bad

    -- a page that stands in a file is read as it was written
    pub page_back : IsReadAt file q written
    page_back = record { form = form_there; strips = strip_back; bad = bad_there }

-- its directory is whole
pub directory_whole : (file : List ℕ) (q start total k : ℕ) (written : WrittenPage)
    → IsPageAt file q start total k written
    → is_directory Little file q ≡ true
directory_whole file q start total k written here =
    let after = at_inside (values_bytes written.form (offsets_from start written.strips) (lengths_of written.strips))
    here.values in
    let count : is_inside file q 2 ≡ true = le-leb _ _ (omega (arith, after)) in
    let all : is_inside file q (6 + 12 * field_count written.bad) ≡ true = le-leb _ _ (omega (arith, after)) in
    rw (count_there file q start total k written here, count, all) refl

-- and its next offset is the number at its last four bytes
pub next_there : (file : List ℕ) (q start total k : ℕ) (written : WrittenPage) → IsPageAt file q start total k written
    → next_offset Little file q ≡ number_at Little 4 file (q + to_link written.bad)
next_there file q start total k written here =
    let offset : q + 2 + 12 * field_count written.bad ≡ q + to_link written.bad = omega arith in
    rw (count_there file q start total k written here, offset) refl
