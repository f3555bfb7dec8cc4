-- The places of a chain's offsets, and a reader that looks for a loop as it goes.
use Rattle.std.specs.Prelude.{◌≡◌, ◌≢◌, ◌+◌, ◌^◌, ◌<◌, ◌≤◌, ℕ, zero, suc, ◌==◌, if◌then◌else◌, Bool}
use Rattle.std.specs.Prelude.{false}
use Rattle.std.specs.Prelude.{List, length, Option, Some, None}
use Rattle.fax_files.specs.declared.Endian.{Endian}
use Rattle.fax_files.specs.declared.FileFault.{FileFault}
use Rattle.fax_files.specs.declared.FileFault.TheVariants.{DirectoryLoop}
use Rattle.fax_files.specs.declared.chain.Search.{Search}
use Rattle.fax_files.specs.declared.chain.Search.TheVariants.{Running, Known}
use Rattle.fax_files.specs.Directory.{is_directory, next_offset}
use Rattle.fax_files.specs.views.Chain.{chain_of}
use Rattle.fax_files.specs.views.Tiff.{TiffFile}

-- the offset that stands i places after this one, directory by directory
abbrev pub link : Endian → List ℕ → ℕ → ℕ → ℕ
link endian file next_at zero = next_at
link endian file next_at (suc i) = link endian file (next_offset endian file next_at) i

-- the offset after a directory, or none where no directory stands
abbrev pub next_of : Endian → List ℕ → ℕ → Option ℕ
next_of endian file q =
    if q == 0 then None else (if is_directory endian file q then (Some (next_offset endian file q))
    else None)

-- the next offset after the first i directories of a file
abbrev pub offset : TiffFile → ℕ → ℕ
offset tiff i = link tiff.head.endian tiff.file tiff.head.first i

-- a directory stands there, and the next offset leads one place on
abbrev pub LeadsOn : TiffFile → ℕ → Type 0
LeadsOn tiff i = next_of tiff.head.endian tiff.file (offset tiff i) ≡ Some (offset tiff (i + 1))

-- a file's chain has fewer than 2^32 directories
abbrev pub HasFewPages : TiffFile → Type 0
HasFewPages tiff = length (chain_of tiff).offsets < 2 ^ 32

-- From this place on, the offsets of the chain come again after so many, and not before. Nowhere
-- before does the chain end
pub record IsRound (tiff : TiffFile) (start len : ℕ) : Type 0 where
  pub some : 0 < len
  pub back : offset tiff (start + len) ≡ offset tiff start
  pub first : (i : ℕ) → 0 < i → i < len → offset tiff (start + i) ≢ offset tiff start
  pub on : (i : ℕ) → i < start + len → LeadsOn tiff i
  pub early : start < 2 ^ 33
  pub short : len ≤ start + 1

-- the first place of which the offset comes again
pub record IsTurn (tiff : TiffFile) (len page : ℕ) : Type 0 where
  pub again : offset tiff page ≡ offset tiff (page + len)
  pub first : (i : ℕ) → i < page → offset tiff i ≢ offset tiff (i + len)

-- the chain of a file turns nowhere back
abbrev pub HasNoLoop : TiffFile → Type 0
HasNoLoop tiff = (chain_of tiff).end ≢ Some DirectoryLoop

-- the page at which a chain of so many turns back, if that is its end
abbrev pub turning_page : Option FileFault → ℕ → Option ℕ
turning_page (Some DirectoryLoop) pages = Some pages
turning_page _ pages = None

-- the page at which a file's chain turns back, if it does
abbrev pub cycle_start_of : TiffFile → Option ℕ
cycle_start_of tiff = turning_page (chain_of tiff).end (length (chain_of tiff).offsets)

-- a reader's fields: the next offset stands after the directories returned, which are the first of
-- the chain
pub record IsChainPlace (tiff : TiffFile) (next_at yielded : ℕ) : Type 0 where
  pub upcoming_is : next_at ≡ offset tiff yielded
  pub within : yielded ≤ length (chain_of tiff).offsets
  pub few : HasFewPages tiff

-- A search runs at twice the reader's place, and did not meet it yet, or it is known at which page
-- the chain turns back
abbrev pub IsSearch : TiffFile → ℕ → Search → Type 0
IsSearch tiff yielded (Running fast) =
    (fast ≡ offset tiff (yielded + yielded)) × ((i : ℕ) → i < yielded + yielded → LeadsOn tiff i)
    × ((k : ℕ) → 0 < k → k ≤ yielded → offset tiff k ≢ offset tiff (k + k))
IsSearch tiff yielded (Known turn) = turn ≡ cycle_start_of tiff

-- a reader's fields
pub record IsSearchPlace (tiff : TiffFile) (next_at yielded : ℕ) (search : Search) : Type 0 where
  pub offset : IsChainPlace tiff next_at yielded
  pub search_is : IsSearch tiff yielded search

-- it is known that the chain turns back after so many directories
abbrev pub is_cycle_start : Search → ℕ → Bool
is_cycle_start (Known (Some turn)) yielded = turn == yielded
is_cycle_start _ yielded = false
