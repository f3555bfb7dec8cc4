-- Numbers in a TIFF file, its header, its directories and their chain (TIFF 6.0, section 2).
-- 'Ours' is this project's profile.
use Rattle.std.specs.Prelude.{ℕ, zero, suc, ◌+◌, ◌*◌, Bool, true, nat_le, nat_lt, ◌==◌}
use Rattle.std.specs.Prelude.{◌&&◌, ◌||◌, not, if◌then◌else◌, List, [], ◌∷◌, length, take, drop}
use Rattle.std.specs.Prelude.{find, Option, Some, None, Result, Ok, Err, codes, bytes_eq}
use Rattle.std.specs.List.{list_any}
use Rattle.byteorder.specs.Endian.{little_number, big_number}
use Rattle.fax_files.specs.declared.FileFault.TheVariants as file_fault
use Rattle.fax_files.specs.declared.tags.TheConstants as Tags
pub use Rattle.fax_files.specs.declared.Endian.{Endian}
pub use Rattle.fax_files.specs.declared.Endian.TheVariants.{Little, Big}
pub use Rattle.fax_files.specs.declared.FileFault.{FileFault}

-- the most bytes of a file that is read or written (ours)
abbrev pub max_file : ℕ
max_file = 268435456

-- the n bytes from an offset on lie in the file
abbrev pub is_inside : List ℕ → ℕ → ℕ → Bool
is_inside file offset n = nat_le (offset + n) (length file)

-- the number that the n bytes at an offset of the file spell
unfoldable pub number_at : Endian → ℕ → List ℕ → ℕ → ℕ
number_at Little n file offset = little_number n (drop offset file)
number_at Big n file offset = big_number n (drop offset file)

-- steps that end at the first fault (ours)
infixl 10 ◌>>=◌
abbrev pub ◌>>=◌ : {A B F : Type 0} → Result A F → (A → Result B F) → Result B F
(Ok x) >>= next = next x
(Err fault) >>= next = Err fault

-- continues where the test holds, and else ends with the fault (ours)
abbrev pub check : Bool → FileFault → Result (Unit {0}) FileFault
check test fault = if test then (Ok tt) else (Err fault)

-- what a file's header says: the order of bytes, and where the first directory stands
pub record Header : Type 0 where
  pub endian : Endian
  pub first : ℕ

-- a file's header, or its first fault: II is little-endian, MM is big-endian
unfoldable pub header : List ℕ → Result Header FileFault
header file = do
  _ ← check (is_inside file 0 8) file_fault.ShortHeader
  endian ← if bytes_eq (take 2 file) (codes "II") then (Ok Little)
      else (if bytes_eq (take 2 file) (codes "MM") then (Ok Big) else (Err file_fault.ByteOrder))
  _ ← check (number_at endian 2 file 2 == 42) file_fault.Magic
  _ ← check (not (number_at endian 4 file 4 == 0)) file_fault.NoDirectory
  Ok (record { endian = endian; first = number_at endian 4 file 4 })

-- an entry of a directory: its tag, the type of its values, how many there are, and where its last
-- four bytes stand
pub record Entry : Type 0 where
  pub tag : ℕ
  pub kind : ℕ
  pub count : ℕ
  pub offset : ℕ

-- n entries of twelve bytes each from an offset on
unfoldable pub entries_at : Endian → List ℕ → ℕ → ℕ → List Entry
entries_at endian file offset zero = []
entries_at endian file offset (suc n) = record {
  tag = number_at endian 2 file offset;
  kind = number_at endian 2 file (offset + 2);
  count = number_at endian 4 file (offset + 4);
  offset = offset + 8;
} ∷ entries_at endian file (offset + 12) n

-- the directory at offset q lies whole in the file: the number of its entries, these, and the next
-- offset
abbrev pub is_directory : Endian → List ℕ → ℕ → Bool
is_directory endian file q =
    is_inside file q 2 && is_inside file q (6 + 12 * number_at endian 2 file q)

-- the entries of the directory at offset q
abbrev pub entries : Endian → List ℕ → ℕ → List Entry
entries endian file q = entries_at endian file (q + 2) (number_at endian 2 file q)

-- the offset of the next directory, 0 at the chain's end
abbrev pub next_offset : Endian → List ℕ → ℕ → ℕ
next_offset endian file q = number_at endian 4 file (q + 2 + 12 * number_at endian 2 file q)

-- the first entry of a tag (ours)
abbrev pub field : List Entry → ℕ → Option Entry
field fields tag = find (λ entry. entry.tag == tag) fields

-- how many bytes a value takes, SHORT, LONG or RATIONAL
abbrev pub value_len : Entry → ℕ
value_len entry = if entry.kind == Tags.SHORT then 2 else (if entry.kind == Tags.LONG then 4 else 8)

-- where an entry's values stand, SHORT, LONG or RATIONAL: in the entry if they take at most four
-- bytes, else at the offset that it gives
unfoldable pub values_offset : Endian → List ℕ → Entry → ℕ
values_offset endian file entry =
    if nat_le (entry.count * value_len entry) 4 then entry.offset
    else number_at endian 4 file entry.offset

-- an entry's i-th value, SHORT or LONG
unfoldable pub value_at : Endian → List ℕ → Entry → ℕ → ℕ
value_at endian file entry i =
    number_at endian (if entry.kind == Tags.SHORT then 2 else 4) file
    (values_offset endian file entry + i * value_len entry)

-- an entry has n values at least, SHORT or LONG (ours), and the first n lie in the file
unfoldable pub has_integers : Endian → List ℕ → Entry → ℕ → Bool
has_integers endian file entry n =
    ((entry.kind == Tags.SHORT) || (entry.kind == Tags.LONG)) && (nat_le n entry.count
    && is_inside file (values_offset endian file entry) (n * value_len entry))

-- the entry of a tag, which has to be there (ours)
abbrev pub needed : List Entry → ℕ → Result Entry FileFault
needed fields tag =
    elim (field fields tag) [ None ↦ Err (file_fault.MissingField tag) | Some entry ↦ Ok entry ]

-- A scalar: the first value of the entry of a tag. Where the tag is absent, the number that stands
-- for it, if there is one. A number that does not pass the test is this fault of the tag (ours)
unfoldable pub scalar : Endian → List ℕ → List Entry → ℕ → Option ℕ → (ℕ → Bool)
    → (ℕ → FileFault) → Result ℕ FileFault
scalar endian file fields tag absent test fault = do
  number ← elim (field fields tag) [
    | None ↦ elim absent [ None ↦ Err (file_fault.MissingField tag) | Some number ↦ Ok number ]
    | Some entry ↦ if has_integers endian file entry 1 then (Ok (value_at endian file entry 0))
        else (Err (file_fault.BadField entry.tag))
  ]
  _ ← check (test number) (fault tag)
  Ok number

-- the tags of entries ascend, none standing twice
abbrev pub ascend : List Entry → Bool
ascend [] = true
ascend (entry ∷ []) = true
ascend (entry ∷ next ∷ entries) = nat_lt entry.tag next.tag && ascend (next ∷ entries)

-- the chain of a file's directories, each one a page, as far as it goes: their offsets, and the
-- fault that ends it, if any
pub record ChainRead : Type 0 where
  pub offsets : List ℕ
  pub end : Option FileFault

-- the chain from the next offset on, after these directories, the last one first: it ends at an
-- offset of 0; with a fault where one stands among them already (ours), or no whole directory
-- stands there; and before the limit, which is above all that can be
unfoldable pub read_chain_from : ℕ → Endian → List ℕ → List ℕ → ℕ → ChainRead
read_chain_from zero endian file before next_at = record { offsets = []; end = None }
read_chain_from (suc limit) endian file before next_at =
    if next_at == 0 then (record { offsets = []; end = None })
    else (if list_any (λ q. next_at == q) before
    then (record { offsets = []; end = Some file_fault.DirectoryLoop })
    else (if is_directory endian file next_at then (
    let next = next_offset endian file next_at in
    let more = read_chain_from limit endian file (next_at ∷ before) next in
    record more { offsets = next_at ∷ more.offsets })
    else (record { offsets = []; end = Some file_fault.DirectoryOutside })))

-- the chain of a file with this header: no two of its directories begin at one byte
unfoldable pub read_chain : Header → List ℕ → ChainRead
read_chain head file = read_chain_from (suc (length file)) head.endian file [] head.first
