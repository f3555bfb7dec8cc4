-- The entries of a directory.
use Rattle.std.specs.Prelude.{List}
use Rattle.fax_files.specs.Directory.{Entry, entries}
use Rattle.fax_files.specs.views.Tiff.{TiffDirectory}

-- the entries of a directory
abbrev pub entries_of : TiffDirectory → List Entry
entries_of directory = entries directory.endian directory.file directory.offset
