-- The parts of a written page, as the code puts them one after the other.
use Rattle.std.specs.Prelude.{ℕ, ◌+◌, ◌*◌, List, ◌++◌, length, map, take, drop, flat_map, Option}
use Rattle.fax_files.specs.Page.{PageForm}
use Rattle.fax_files.specs.Layout.{two, four, WrittenField, field_of, field_bytes, array_bytes}
use Rattle.fax_files.specs.Layout.{BadRows, to_link, one_or_offset, fields_with}
use Rattle.fax_files.specs.declared.tags.TheConstants as Tags

-- one SHORT, which stands left in the value's four bytes
abbrev pub short_field : ℕ → ℕ → WrittenField
short_field tag n = field_of tag Tags.SHORT 1 (two n ++ two 0)

-- LONGs: the one that there is, or the offset of the first
abbrev pub long_field : ℕ → ℕ → ℕ → WrittenField
long_field tag count n = field_of tag Tags.LONG count (four n)

-- the offset of a RATIONAL
abbrev pub rational_field : ℕ → ℕ → WrittenField
rational_field tag offset = field_of tag Tags.RATIONAL 1 (four offset)

-- the strips' lengths
abbrev pub lengths_of : List (List ℕ) → List ℕ
lengths_of strips = map length strips

-- the strips' bytes, one strip after the other
abbrev pub joined_strips : List (List ℕ) → List ℕ
joined_strips strips = flat_map (λ strip. strip) strips

-- numbers one after the other, each a LONG
abbrev pub longs : List ℕ → List ℕ
longs numbers = flat_map four numbers

-- how far after a directory's offset stand XResolution, YResolution, and the strips' offsets where
-- there are more than one
abbrev pub to_x : Option BadRows → ℕ
to_x bad = to_link bad + 4

abbrev pub to_y : Option BadRows → ℕ
to_y bad = to_link bad + 12

abbrev pub to_offsets : Option BadRows → ℕ
to_offsets bad = to_link bad + 20

-- the fields of the directory at q of page k of `total`, of which the strips have these offsets and
-- lengths
abbrev pub fields_of : ℕ → ℕ → ℕ → PageForm → Option BadRows → List ℕ → List ℕ → List WrittenField
fields_of q total k form bad offsets lengths =
    let offsets_offset = q + to_offsets bad in
    let lengths_offset = offsets_offset + 4 * length lengths in
    fields_with q total k form bad
    (long_field Tags.STRIP_OFFSETS (length offsets) (one_or_offset offsets offsets_offset))
    (long_field Tags.STRIP_BYTE_COUNTS (length lengths) (one_or_offset lengths lengths_offset))

-- a directory of these fields without its last four bytes, the next offset
abbrev pub fields_bytes : List WrittenField → List ℕ
fields_bytes fields = two (length fields) ++ flat_map field_bytes fields

-- a RATIONAL: numerator and denominator
abbrev pub rational_bytes : ℕ × ℕ → List ℕ
rational_bytes value = four value.0 ++ four value.1

-- the values that stand after the directory: resolutions, and offsets and byte counts of more than
-- one strip
abbrev pub values_bytes : PageForm → List ℕ → List ℕ → List ℕ
values_bytes form offsets lengths =
    rational_bytes form.x ++ rational_bytes form.y ++ array_bytes offsets ++ array_bytes lengths

-- a file with its four bytes at an offset set to a number
abbrev pub with_four_at : List ℕ → ℕ → ℕ → List ℕ
with_four_at file offset n = take offset file ++ four n ++ drop (offset + 4) file
