-- Entries that lie in the file, and their values.
use Rattle.std.proofs.Common.{◌≡◌, ℕ, ◌+◌, ◌*◌, ◌≤◌, true, List, length, refl, arith}
use Rattle.std.specs.Prelude.{IsTrue}
use Rattle.std.proofs.lemmas.Bool.{eq-eqb}
use Rattle.fax_files.specs.declared.Endian.{Endian}
use Rattle.fax_files.specs.Directory.{Entry, value_len, values_offset, has_integers}
use Rattle.fax_files.specs.code.Entries.{is_integer}

-- what it says of an entry that it has n values
pub record HoldsIntegers (endian : Endian) (file : List ℕ) (entry : Entry) (n : ℕ) : Type 0 where
  pub kind : is_integer entry ≡ true
  pub count : n ≤ entry.count
  pub inside : values_offset endian file entry + n * value_len entry ≤ length file

pub holds_integers : (endian : Endian) (file : List ℕ) (entry : Entry) (n : ℕ)
    → IsTrue (has_integers endian file entry n)
    → HoldsIntegers endian file entry n
unfolding has_integers
holds_integers endian file entry n there = grind arith

-- the value at an index below the count lies in the file
pub value_inside : (endian : Endian) (file : List ℕ) (entry : Entry) (i offset len : ℕ)
    → offset ≡ values_offset endian file entry
    → len ≡ value_len entry
    → IsTrue (has_integers endian file entry (i + 1)) → offset + i * len + len ≤ length file
value_inside endian file entry i offset len offset_is len_is there = grind (arith, holds_integers)

-- an entry with n values has each number of values up to n
pub fewer_integers : (endian : Endian) (file : List ℕ) (entry : Entry) (m n : ℕ) → m ≤ n
    → IsTrue (has_integers endian file entry n)
    → IsTrue (has_integers endian file entry m)
unfolding has_integers
fewer_integers endian file entry m n le there = grind arith

-- a SHORT takes two bytes
pub short_len : (entry : Entry) → entry.kind ≡ 3 → value_len entry ≡ 2
short_len entry short = rw (eq-eqb _ _ short) refl

-- another integer takes four bytes
pub other_len : (entry : Entry) → is_integer entry ≡ true → (entry.kind ≡ 3 → ⊥) → value_len entry ≡ 4
other_len entry integer other = grind arith
