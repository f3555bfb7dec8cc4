-- What the receiver of a page counted of bad rows (RFC 2306, BadFaxLines, CleanFaxData and
-- ConsecutiveBadFaxLines).
-- A definition without a citation is this project's profile.
use Rattle.std.specs.Prelude.{ℕ, true, List, Option, Some, None, Ok, Err}
use Rattle.fax_files.specs.Directory.{Endian, Entry, entries, scalar}
use Rattle.fax_files.specs.declared.FileFault.TheVariants.{BadField}
use Rattle.fax_files.specs.declared.tags.TheConstants as Tags
pub use Rattle.fax_files.specs.declared.bad_rows.Received.{Received}

-- The number of a field that a page may have: what `scalar` reads of it, a SHORT or a LONG, the
-- first value of the first entry of its tag. There is none where no entry has the tag, and where
-- its first entry is of another type, has no value, or has its first value outside the file
abbrev pub optional_scalar : Endian → List ℕ → List Entry → ℕ → Option ℕ
optional_scalar endian file fields tag =
    elim (scalar endian file fields tag None (λ _. true) BadField) [
      | Ok number ↦ Some number
      | Err _ ↦ None
    ]

-- what the page whose directory stands whole at offset q says: how many of its rows were bad,
-- whether bad rows stand in its data, and how many bad rows came one after another at most
-- (RFC 2306, BadFaxLines, CleanFaxData and ConsecutiveBadFaxLines). No page is refused for it
unfoldable pub received : Endian → List ℕ → ℕ → Received
received endian file q =
    let fields = entries endian file q in
    record {
      bad_rows = optional_scalar endian file fields Tags.BAD_FAX_LINES;
      clean = optional_scalar endian file fields Tags.CLEAN_FAX_DATA;
      consecutive = optional_scalar endian file fields Tags.CONSECUTIVE_BAD_FAX_LINES;
    }
