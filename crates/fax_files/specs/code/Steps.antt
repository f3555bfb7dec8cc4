-- The steps to a page's form, as the code takes them.
-- A definition without a citation is this project's profile.
use Rattle.std.specs.Prelude.{◌≡◌, ◌≢◌, ℕ, ◌+◌, ◌≤◌, Bool, true, nat_le, nat_lt, ◌==◌, ◌&&◌, List}
use Rattle.std.specs.Prelude.{take, if◌then◌else◌, drop, Option, Some, None, Result, Ok, Err}
use Rattle.fax_files.specs.Directory.{Endian, FileFault, Entry, check, field, has_integers}
use Rattle.fax_files.specs.Directory.{is_inside, needed, number_at, scalar, value_at}
use Rattle.fax_files.specs.Directory.{values_offset, ◌>>=◌}
use Rattle.fax_files.specs.declared.FileFault.TheVariants as Fault
use Rattle.fax_files.specs.declared.fields.Limits.{Limits}
use Rattle.fax_files.specs.declared.fields.Limits.TheVariants.{Between, AboveZero, Any}
use Rattle.fax_files.specs.declared.fields.FieldRefusal.{FieldRefusal}
use Rattle.fax_files.specs.declared.fields.FieldRefusal.TheVariants as Refused
use Rattle.fax_files.specs.declared.tags.TheConstants as Tags
use Rattle.fax_files.specs.Page.{Mmr, PageForm, Resolution, is_between, most_pels, most_rows}
use Rattle.fax_files.specs.Page.{rational_of, resolution_of}
use Rattle.fax_files.specs.views.Page.{IsGoodRational, strip_count}

-- an entry's first value
abbrev pub first_value : Endian → List ℕ → Entry → Result ℕ FileFault
first_value endian file entry =
    if has_integers endian file entry 1 then (Ok (value_at endian file entry 0))
    else (Err (Fault.BadField entry.tag))

-- the first value of a tag, or the number that stands for it where it is absent, if there is one
abbrev pub first_number : Endian → List ℕ → List Entry → ℕ → Option ℕ → Result ℕ FileFault
first_number endian file fields tag absent = elim (field fields tag) [
  | None ↦ elim absent [ None ↦ Err (Fault.MissingField tag) | Some number ↦ Ok number ]
  | Some entry ↦ first_value endian file entry
]

-- the numbers that are taken, and the fault of others
abbrev pub test_of : Limits → ℕ → Bool
test_of (Between low high) = is_between low high
test_of AboveZero = nat_lt 0
test_of Any = λ _. true

abbrev pub fault_of : FieldRefusal → ℕ → FileFault
fault_of Refused.OutOfLimits = Fault.OutOfLimits
fault_of Refused.Unsupported = Fault.Unsupported
fault_of Refused.BadField = Fault.BadField

-- the resolution that the fields of a page say
abbrev pub resolution_in : Endian → List ℕ → List Entry → Resolution
resolution_in endian file fields = resolution_of (rational_of endian file fields Tags.X_RESOLUTION)
    (rational_of endian file fields Tags.Y_RESOLUTION)
    (scalar endian file fields Tags.RESOLUTION_UNIT (Some 2) (is_between 1 3)
    Fault.Unsupported)

-- the entry of a tag, which has to be there, with a value for each strip
abbrev pub strip_field : Endian → List ℕ → List Entry → ℕ → ℕ → Result Entry FileFault
strip_field endian file fields tag strips = do
  entry ← needed fields tag
  _ ← check (has_integers endian file entry strips) (Fault.BadField tag)
  Ok entry

-- the form that fields say is within the limits, but for its resolution
pub record IsFormOf (endian : Endian) (file : List ℕ) (fields : List Entry)
    (form : PageForm) : Type 0 where
  pub some_width : 1 ≤ form.width
  pub width : form.width ≤ most_pels
  pub some_rows : 1 ≤ form.rows
  pub rows : form.rows ≤ most_rows
  pub some_in_strip : 1 ≤ form.rows_per_strip
  pub in_strip : form.rows_per_strip ≤ form.rows
  pub strips : form.strips ≡ strip_count form.rows form.rows_per_strip
  pub aligned : form.aligned ≡ true → form.coding ≢ Mmr
  pub found : record { x = form.x; y = form.y; unit = form.unit } ≡ resolution_in endian file fields

-- a resolution of good numbers
pub record IsGoodResolution (found : Resolution) : Type 0 where
  pub x : IsGoodRational found.x
  pub y : IsGoodRational found.y
  pub some_unit : 1 ≤ found.unit
  pub unit : found.unit ≤ 3

-- an entry's RATIONAL, where both of its numbers are above 0
abbrev pub good_rational : Endian → List ℕ → Entry → Option (ℕ × ℕ)
good_rational endian file entry =
    let offset = values_offset endian file entry in
    let top = number_at endian 4 file offset in
    let bottom = number_at endian 4 file (offset + 4) in
    if ((entry.kind == Tags.RATIONAL) && (nat_le 1 entry.count && is_inside file offset 8))
    && (nat_lt 0 top && nat_lt 0 bottom) then (Some (top, bottom)) else None

-- the bytes of a length at an offset, where they lie in the file
abbrev pub bytes_at : List ℕ → ℕ → ℕ → Option (List ℕ)
bytes_at file offset len =
    if is_inside file offset len then (Some (take len (drop offset file))) else None

-- the bytes of strip s, where there are entries for the strips' offsets and byte counts
abbrev pub placed_bytes : Endian → List ℕ → Option Entry → Option Entry → ℕ → Option (List ℕ)
placed_bytes endian file (Some offsets) (Some counts) s =
    bytes_at file (value_at endian file offsets s) (value_at endian file counts s)
placed_bytes endian file _ _ s = None
