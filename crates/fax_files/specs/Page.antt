-- The form of a page, from the fields of its directory (TIFF 6.0, sections 8 and 11), and the bytes
-- of its strips.
-- A definition without a citation is this project's profile.
use Rattle.std.specs.Prelude.{ℕ, ◌+◌, ◌-◌, ◌*◌, ◌/◌, ◌%◌, ◌^◌, min, Bool, true, nat_le, nat_lt}
use Rattle.std.specs.Prelude.{◌==◌, ◌&&◌, if◌then◌else◌, List, take, drop, Option, Some}
use Rattle.std.specs.Prelude.{None, option_and_then, Result, Ok}
use Rattle.std.specs.Int.{div_ceil}
use Rattle.fax_bits.specs.declared.FillOrder.{FillOrder}
use Rattle.fax_bits.specs.declared.FillOrder.TheVariants.{MsbFirst, LsbFirst}
use Rattle.fax_page.specs.declared.StripForm.{StripForm}
use Rattle.fax_files.specs.Directory.{Endian, FileFault, Entry, check, entries, field}
use Rattle.fax_files.specs.Directory.{has_integers, is_inside, needed, number_at, scalar, value_at}
use Rattle.fax_files.specs.Directory.{values_offset, ◌>>=◌}
use Rattle.fax_files.specs.declared.FileFault.TheVariants.{BadField, Unsupported, OutOfLimits}
use Rattle.fax_files.specs.declared.tags.TheConstants as Tags
pub use Rattle.fax_page.specs.Strip.{most_rows}
pub use Rattle.fax_page.specs.declared.Coding.{Coding}
pub use Rattle.fax_page.specs.declared.Coding.TheVariants.{Mh, Mr, Mmr}
pub use Rattle.fax_files.specs.declared.PageForm.{PageForm}

-- the most pels of a row
abbrev pub most_pels : ℕ
most_pels = 65535

-- the number lies between these two
abbrev pub is_between : ℕ → ℕ → ℕ → Bool
is_between low high n = nat_le low n && nat_le n high

-- the number of a fill order (TIFF 6.0, FillOrder)
abbrev pub fill_order_of : FillOrder → ℕ
fill_order_of MsbFirst = 1
fill_order_of LsbFirst = 2

-- the first value of a tag, a RATIONAL: numerator and denominator, where both are above 0
-- (TIFF 6.0, section 2)
unfoldable pub rational_of : Endian → List ℕ → List Entry → ℕ → Option (ℕ × ℕ)
rational_of endian file fields tag = elim (field fields tag) [
  | None ↦ None
  | Some entry ↦
      let offset = values_offset endian file entry in
      let top = number_at endian 4 file offset in
      let bottom = number_at endian 4 file (offset + 4) in
      if ((entry.kind == Tags.RATIONAL) && (nat_le 1 entry.count && is_inside file offset 8))
      && (nat_lt 0 top && nat_lt 0 bottom) then (Some (top, bottom)) else None
]

-- a resolution: dots of a row and rows, in each unit, which is 1 for none, 2 for an inch, 3 for a
-- centimetre (TIFF 6.0, XResolution, YResolution and ResolutionUnit)
pub record Resolution : Type 0 where
  pub x : ℕ × ℕ
  pub y : ℕ × ℕ
  pub unit : ℕ

-- 204 by 196 dots an inch, where a page has no good resolution
abbrev pub usual_resolution : Resolution
usual_resolution = record { x = (204, 1); y = (196, 1); unit = 2 }

-- the resolution of these parts: the usual one where one of them is not good
abbrev pub resolution_of : Option (ℕ × ℕ) → Option (ℕ × ℕ) → Result ℕ FileFault → Resolution
resolution_of (Some x) (Some y) (Ok unit) = record { x = x; y = y; unit = unit }
resolution_of _ _ _ = usual_resolution

-- The form that the fields of a page say, or their first fault, in this order (TIFF 6.0, the fields
-- of these names; the limits are ours)
unfoldable pub form_in : Endian → List ℕ → List Entry → Result PageForm FileFault
form_in endian file fields = do
  width ← scalar endian file fields Tags.IMAGE_WIDTH None (is_between 1 most_pels) OutOfLimits
  rows ← scalar endian file fields Tags.IMAGE_LENGTH None (is_between 1 most_rows) OutOfLimits
  _ ← scalar endian file fields Tags.BITS_PER_SAMPLE (Some 1) (is_between 1 1) Unsupported
  compression ← scalar endian file fields Tags.COMPRESSION None (is_between 3 4) Unsupported
  -- the value of a white pel: where it is 1, black is coded as white, and white as black
  white ← scalar endian file fields Tags.PHOTOMETRIC_INTERPRETATION None (is_between 0 1)
      Unsupported
  order ← scalar endian file fields Tags.FILL_ORDER (Some 1) (is_between 1 2) Unsupported
  _ ← scalar endian file fields Tags.SAMPLES_PER_PIXEL (Some 1) (is_between 1 1) Unsupported
  -- the rows of each strip but the last: more than the page's rows means all of these (ours)
  in_strip ← scalar endian file fields Tags.ROWS_PER_STRIP (Some (2 ^ 32 - 1)) (nat_lt 0) BadField
  let rows_per_strip = min in_strip rows
  -- where Compression is 4, T4Options is not read: bit 0 says MR, bit 2 aligned EOLs, and its other
  -- bits are ignored
  options ← if compression == 4 then (Ok 0)
      else (scalar endian file fields Tags.T4_OPTIONS (Some 0) (λ _. true) BadField)
  let found = resolution_of (rational_of endian file fields Tags.X_RESOLUTION)
      (rational_of endian file fields Tags.Y_RESOLUTION)
      (scalar endian file fields Tags.RESOLUTION_UNIT (Some 2) (is_between 1 3) Unsupported)
  Ok (record {
    width = width;
    rows = rows;
    coding = if compression == 4 then Mmr else (if options % 2 == 1 then Mr else Mh);
    order = if order == 2 then LsbFirst else MsbFirst;
    aligned = options / 4 % 2 == 1;
    exchanged = white == 1;
    rows_per_strip = rows_per_strip;
    strips = div_ceil rows rows_per_strip;
    x = found.x;
    y = found.y;
    unit = found.unit;
  })

-- the form of the page whose directory stands whole at offset q, or the first fault of its fields,
-- of which those of its strips, with a value for each, come last
unfoldable pub page : Endian → List ℕ → ℕ → Result PageForm FileFault
page endian file q = do
  let fields = entries endian file q
  form ← form_in endian file fields
  offsets ← needed fields Tags.STRIP_OFFSETS
  _ ← check (has_integers endian file offsets form.strips) (BadField Tags.STRIP_OFFSETS)
  byte_counts ← needed fields Tags.STRIP_BYTE_COUNTS
  _ ← check (has_integers endian file byte_counts form.strips) (BadField Tags.STRIP_BYTE_COUNTS)
  Ok form

-- the bytes of strip s of the page whose directory stands at q, where they lie in the file
-- (TIFF 6.0, StripOffsets and StripByteCounts)
unfoldable pub strip_bytes : Endian → List ℕ → ℕ → ℕ → Option (List ℕ)
strip_bytes endian file q s =
    let fields = entries endian file q in
    option_and_then (λ offsets. option_and_then (λ counts.
    let offset = value_at endian file offsets s in
    let len = value_at endian file counts s in
    if is_inside file offset len then (Some (take len (drop offset file))) else None)
    (field fields Tags.STRIP_BYTE_COUNTS)) (field fields Tags.STRIP_OFFSETS)

-- the form of strip s: it holds the page's rows from s * rows_per_strip on (TIFF 6.0, RowsPerStrip)
abbrev pub strip_form : PageForm → ℕ → StripForm
strip_form form s = record {
  coding = form.coding;
  order = form.order;
  width = form.width;
  rows = min form.rows_per_strip (form.rows - s * form.rows_per_strip);
  aligned = form.aligned;
}
