-- The first entries of the tags that a page's form depends on.
use Rattle.std.specs.Prelude.{◌≡◌, ℕ, ◌+◌, ◌*◌, ◌<◌, ◌≤◌, Bool, List, length, get_or, Option, None}
use Rattle.std.specs.Prelude.{◌==◌}
use Rattle.std.specs.List.{list_any}
use Rattle.fax_files.specs.declared.Endian.{Endian}
use Rattle.fax_files.specs.declared.fields.TheConstants.{TAGS}
use Rattle.fax_files.specs.Directory.{Entry, field}
use Rattle.fax_files.specs.code.Entries.{entry_count}
use Rattle.fax_files.specs.views.Fields.{entries_of}
use Rattle.fax_files.specs.views.Tiff.{TiffDirectory}

-- a directory lies whole in its file (TIFF 6.0, section 2)
abbrev pub IsWholeDirectory : Endian → List ℕ → ℕ → Type 0
IsWholeDirectory endian file q = q + (6 + 12 * entry_count endian file q) ≤ length file

-- a tag stands among those that are looked for
abbrev pub is_sought : ℕ → Bool
is_sought tag = list_any (λ sought. sought == tag) TAGS

-- for each tag that is looked for, the first of these entries
pub record AreFirst (fields : List Entry) (first : List (Option Entry)) : Type 0 where
  pub count : length first ≡ length TAGS
  pub first_is : (i : ℕ) → i < length TAGS → get_or first i None ≡ field fields (get_or TAGS i 0)

-- the same for the entries of a directory that lies whole in its file
pub record AreFieldsOf (directory : TiffDirectory) (first : List (Option Entry)) : Type 0 where
  pub whole : IsWholeDirectory directory.endian directory.file directory.offset
  pub are_first : AreFirst (entries_of directory) first
