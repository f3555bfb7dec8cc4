-- A reader of a file's chain of directories.
use Rattle.std.specs.Prelude.{◌≡◌, ◌+◌, ℕ}
use Rattle.std.specs.Prelude.{Option, Some, None, Result, Ok, Err, slice_get}
use Rattle.fax_files.specs.declared.FileFault.{FileFault}
use Rattle.fax_files.specs.Directory.{ChainRead, read_chain}
use Rattle.fax_files.specs.views.Tiff.{TiffFile, TiffDirectory, directory_of}

-- a reader of a file's chain: the file, and how many directories were returned
pub record ChainState : Type 0 where
  pub tiff : TiffFile
  pub yielded : ℕ

-- a directory of this file
abbrev pub IsDirectoryOf : TiffFile → TiffDirectory → Type 0
IsDirectoryOf tiff directory = directory ≡ directory_of tiff directory.offset

-- what a chain has at a place: a directory, or its end
abbrev pub answer_at : TiffFile → Option ℕ → Option FileFault
    → Result (Option TiffDirectory) FileFault
answer_at tiff (Some q) end = Ok (Some (directory_of tiff q))
answer_at tiff None None = Ok None
answer_at tiff None (Some fault) = Err fault

-- a file's chain of directories
abbrev pub chain_of : TiffFile → ChainRead
chain_of tiff = read_chain tiff.head tiff.file

-- the answer of a reader: the directory of the chain that stands after those returned, or else the
-- end of the chain
abbrev pub upcoming_answer : ChainState → Result (Option TiffDirectory) FileFault
upcoming_answer chain =
    let whole = chain_of chain.tiff in
    answer_at chain.tiff (slice_get whole.offsets chain.yielded) whole.end

-- a reader after its answer: one directory on, or as it was
abbrev pub after_answer : ChainState → Result (Option TiffDirectory) FileFault → ChainState
after_answer chain (Ok (Some directory)) = record chain { yielded = chain.yielded + 1 }
after_answer chain _ = chain
