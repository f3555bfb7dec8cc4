-- A TIFF file and its directories.
use Rattle.std.specs.Prelude.{ℕ, Bool, List, Option, Result}
use Rattle.fax_files.specs.declared.Endian.{Endian}
use Rattle.fax_files.specs.Directory.{Header, is_directory}
use Rattle.fax_files.specs.declared.FileFault.{FileFault}
use Rattle.fax_files.specs.declared.PageForm.{PageForm}
use Rattle.fax_files.specs.BytesInside.{bytes_inside}
use Rattle.fax_files.specs.Page.{page, strip_bytes}
use Rattle.fax_files.specs.BadRows.{Received, received}

-- a file and what its header says
pub record TiffFile : Type 0 where
  pub file : List ℕ
  pub head : Header

-- a directory: its file, with the order of its bytes, and its offset in the file
pub record TiffDirectory : Type 0 where
  pub endian : Endian
  pub file : List ℕ
  pub offset : ℕ

-- the directory at offset q of a file
abbrev pub directory_of : TiffFile → ℕ → TiffDirectory
directory_of tiff q = record { endian = tiff.head.endian; file = tiff.file; offset = q }

-- a directory stands whole at offset q of a file
abbrev pub has_directory : TiffFile → ℕ → Bool
has_directory tiff q = is_directory tiff.head.endian tiff.file q

-- the form of the page with this directory, or its first fault
abbrev pub form_of : TiffDirectory → Result PageForm FileFault
form_of directory = page directory.endian directory.file directory.offset

-- the bytes of strip s of the page with this directory, where they lie in the file
abbrev pub bytes_of : TiffDirectory → ℕ → Option (List ℕ)
bytes_of directory s = strip_bytes directory.endian directory.file directory.offset s

-- the bytes of strip s of the page with this directory that lie in the file
abbrev pub inside_of : TiffDirectory → ℕ → List ℕ
inside_of directory s = bytes_inside directory.endian directory.file directory.offset s

-- what the receiver of the page with this directory counted of bad rows
abbrev pub received_of : TiffDirectory → Received
received_of directory = received directory.endian directory.file directory.offset

-- the strips of a page: its directory, and how many there are
pub record PageStrips : Type 0 where
  pub directory : TiffDirectory
  pub count : ℕ
