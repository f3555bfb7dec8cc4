-- What a file has of a strip that does not lie whole in it.
use Rattle.std.specs.Prelude.{ℕ, List, [], take, drop, Some, None}
use Rattle.fax_files.specs.Directory.{Endian, entries, field, value_at}
use Rattle.fax_files.specs.declared.tags.TheConstants as Tags

-- the bytes of strip s of the page whose directory stands at q, up to the file's end: none where it
-- begins after that (TIFF 6.0, StripOffsets and StripByteCounts)
unfoldable pub bytes_inside : Endian → List ℕ → ℕ → ℕ → List ℕ
bytes_inside endian file q s =
    let fields = entries endian file q in
    elim (field fields Tags.STRIP_OFFSETS) [
      | None ↦ []
      | Some offsets ↦ elim (field fields Tags.STRIP_BYTE_COUNTS) [
        | None ↦ []
        | Some counts ↦
            take (value_at endian file counts s) (drop (value_at endian file offsets s) file)
      ]
    ]
