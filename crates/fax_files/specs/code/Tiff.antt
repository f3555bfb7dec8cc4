-- A TIFF file and its directories, as the contracts see them.
use Rattle.std.specs.Prelude.{◌≡◌, ◌≤◌, ℕ, ◌+◌, IsTrue, length, Some}
use Rattle.fax_files.specs.Directory.{Entry, entries, field, has_integers}
use Rattle.fax_files.specs.declared.tags.TheConstants as Tags
use Rattle.fax_files.specs.views.Tiff.{TiffDirectory}

-- the entries of a page's strips, each with a value for each strip
pub record AreStripEntries (directory : TiffDirectory) (count : ℕ)
    (offsets counts : Entry) : Type 0 where
  pub offsets_are : field (entries directory.endian directory.file directory.offset)
      Tags.STRIP_OFFSETS ≡ Some offsets
  pub counts_are : field (entries directory.endian directory.file directory.offset)
      Tags.STRIP_BYTE_COUNTS ≡ Some counts
  pub offsets_inside : offsets.offset + 4 ≤ length directory.file
  pub counts_inside : counts.offset + 4 ≤ length directory.file
  pub offsets_there : IsTrue (has_integers directory.endian directory.file offsets count)
  pub counts_there : IsTrue (has_integers directory.endian directory.file counts count)
