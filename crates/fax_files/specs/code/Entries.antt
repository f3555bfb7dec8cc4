-- Entries one by one (TIFF 6.0, section 2).
use Rattle.std.specs.Prelude.{ℕ, ◌+◌, Bool, ◌==◌, ◌||◌, List}
use Rattle.fax_files.specs.declared.Endian.{Endian}
use Rattle.fax_files.specs.Directory.{Entry, number_at}
use Rattle.fax_files.specs.declared.tags.TheConstants as Tags

-- the entry of twelve bytes at an offset
abbrev pub entry_at : Endian → List ℕ → ℕ → Entry
entry_at endian file offset = record {
  tag = number_at endian 2 file offset;
  kind = number_at endian 2 file (offset + 2);
  count = number_at endian 4 file (offset + 4);
  offset = offset + 8;
}

-- an entry's values are SHORT or LONG, which integers may be (ours)
abbrev pub is_integer : Entry → Bool
is_integer entry = (entry.kind == Tags.SHORT) || (entry.kind == Tags.LONG)

-- the number of entries in the directory at offset q
abbrev pub entry_count : Endian → List ℕ → ℕ → ℕ
entry_count endian file q = number_at endian 2 file q
