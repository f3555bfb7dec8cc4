-- A file that is being written, as the contracts see it.
use Rattle.std.specs.Prelude.{◌≡◌, ◌≤◌, ℕ, ◌+◌, ◌-◌, ◌*◌, ◌%◌, ◌==◌, if◌then◌else◌, List}
use Rattle.std.specs.Prelude.{◌++◌, length, replicate, Option}
use Rattle.fax_files.specs.declared.PageForm.{PageForm}
use Rattle.fax_files.specs.declared.written.Layout.{Layout}
use Rattle.fax_files.specs.declared.tags.TheConstants as Tags
use Rattle.fax_files.specs.Layout.{four}
use Rattle.fax_files.specs.code.PageParts.{to_offsets, long_field}
use Rattle.fax_files.specs.Layout.{BadRows, WrittenField, WrittenPage, fields_with}
use Rattle.fax_files.specs.views.PagesSoFar.{HasAdded}
use Rattle.fax_files.specs.views.Writing.{Writing}
use Rattle.fax_files.specs.Layout.{offsets_from}
use Rattle.fax_files.specs.code.PageParts.{fields_bytes, values_bytes, lengths_of}
use Rattle.fax_files.specs.Directory.{max_file}

-- the fields of a page where it is laid out so
abbrev pub laid_out_fields : Layout → PageForm → List WrittenField
laid_out_fields at form =
    fields_with at.directory at.total at.number form at.bad
    (long_field Tags.STRIP_OFFSETS at.strips at.offsets)
    (long_field Tags.STRIP_BYTE_COUNTS at.strips at.byte_counts)

-- what stands after the strips of a page, which begin at `start` and end at `end`, where its
-- directory has these fields
abbrev pub tail_bytes : ℕ → List WrittenField → PageForm → ℕ → List (List ℕ) → List ℕ
tail_bytes end fields form start strips =
    replicate (end % 2) 0 ++ (fields_bytes fields ++ four 0 ++ values_bytes form
    (offsets_from start strips) (lengths_of strips))

-- a file that is being written is that of the pages that were added, is within the limit, and has
-- a header and room for its last link
pub record IsWriting (writing : Writing) : Type 0 where
  pub pages : List WrittenPage
  pub added : HasAdded writing.total pages writing
  pub link_inside : writing.written.link + 4 ≤ length writing.written.bytes
  pub header : 8 ≤ length writing.written.bytes
  pub limit : length writing.written.bytes ≤ max_file

-- how many bytes a file has whose last page has its directory at this offset, so many strips, and
-- these bad rows
abbrev pub page_end : ℕ → ℕ → Option BadRows → ℕ
page_end directory strips bad =
    directory + to_offsets bad + (if strips == 1 then 0 else (8 * strips))

-- a page whose strips begin at `start` and end at `end` is laid out so
pub record IsLayout (at : Layout) (strips start end number total : ℕ) (bad : Option BadRows)
    : Type 0 where
  pub total_is : at.total ≡ total
  pub number_is : at.number ≡ number
  pub directory_is : at.directory ≡ end + end % 2
  pub strips_are : at.strips ≡ strips
  pub bad_are : at.bad ≡ bad
  pub offsets_are : at.offsets ≡ (if strips == 1 then start else (at.directory + to_offsets bad))
  pub byte_counts_are : at.byte_counts
      ≡ (if strips == 1 then (end - start) else (at.directory + to_offsets bad + 4 * strips))
