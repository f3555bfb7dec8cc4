-- The strips of a written page are found by their offsets and byte counts.
use Rattle.std.proofs.lemmas.Grind.{common_steps}
use Rattle.std.proofs.Common.{◌≡◌, ℕ, zero, suc, ◌+◌, ◌*◌, ◌<◌, ◌≤◌, true, false, List, [], ◌∷◌, length, get_or, Some}
use Rattle.std.proofs.Common.{refl, ap, arith}
use Rattle.std.proofs.lemmas.List.{length-append}
use Rattle.std.proofs.lemmas.Bool.{lt-leb}
use Rattle.std.specs.Prelude.{nat_le, IsOk}
use Rattle.fax_files.specs.Directory.{Entry, field, values_offset, value_at, has_integers}
use Rattle.fax_files.specs.declared.Endian.TheVariants.{Little}
use Rattle.fax_files.specs.code.Steps.{placed_bytes, strip_field}
use Rattle.fax_files.specs.Layout.{four, WrittenField, offsets_from, one_or_offset, array_bytes}
use Rattle.fax_files.specs.code.PageParts.{long_field, lengths_of, longs, joined_strips}
use Rattle.fax_files.proofs.FileOffsetLemmas.{HasBytesAt, at_offset, at_left, at_right, at_inside, number_there}
use Rattle.fax_files.proofs.FileOffsetLemmas.{bytes_there}
use Rattle.fax_files.proofs.WrittenFieldLemmas.{read_fields, HasValues, written_field, field_there}
use Rattle.fax_files.specs.declared.tags.TheConstants as Tags

-- the entry of LONGs at a place
abbrev pub longs_entry : ℕ → ℕ → ℕ → Entry
longs_entry tag count offset = record { tag = tag; kind = Tags.LONG; count = count; offset = offset }

-- numbers stand where an entry has its values, in the entry or after the directory
array_there : (file : List ℕ) (p tag offset : ℕ) (numbers : List ℕ) → 1 ≤ length numbers → length file < 4294967296
    → HasBytesAt file p (four (one_or_offset numbers offset)) → (2 ≤ length numbers
    → HasBytesAt file offset (array_bytes numbers))
    → HasBytesAt file (values_offset Little file (longs_entry tag (length numbers) p)) (longs numbers)
unfolding values_offset
array_there file p tag offset [] some small h there = absurd (omega arith)
array_there file p tag offset (n ∷ []) some small h there = h
array_there file p tag offset (m ∷ n ∷ numbers) some small h there =
    let array : HasBytesAt file offset (longs (m ∷ n ∷ numbers)) = there (omega arith) in
    let long : nat_le (suc (suc (length numbers)) * 4) 4 ≡ false = lt-leb _ _ (omega arith) in
    rw (long, number_there 4 h (omega (arith, small, at_inside (longs (m ∷ n ∷ numbers)) array))) array

-- more than one number stand as they are
pub array_is_longs : (numbers : List ℕ) → 2 ≤ length numbers → array_bytes numbers ≡ longs numbers
array_is_longs numbers le = grind arith

pub length-longs : (numbers : List ℕ) → length (longs numbers) ≡ length numbers * 4
length-longs [] = refl
length-longs (n ∷ numbers) = omega (arith, length-append (four n) (longs numbers), length-longs numbers)

-- each of these numbers stands at its place
long_at : (file : List ℕ) (p : ℕ) (numbers : List ℕ) (i : ℕ) → i < length numbers → HasBytesAt file p (longs numbers)
    → HasBytesAt file (p + i * 4) (four (get_or numbers i 0))
long_at file p [] i lt h = absurd (omega arith)
long_at file p (n ∷ numbers) zero lt h = at_offset (omega arith) (at_left (four n) (longs numbers) h)
long_at file p (n ∷ numbers) (suc i) lt h =
    at_offset (omega arith) (long_at file (p + 4) numbers i (omega arith) (at_right (four n) (longs numbers) h))

-- the entry of a tag has these numbers, which stand where it has its values
pub record ArrayThere (file : List ℕ) (fields : List Entry) (tag : ℕ) (numbers : List ℕ) : Type 0 where
  pub at_entry : ℕ
  pub entry_is : field fields tag ≡ Some (longs_entry tag (length numbers) at_entry)
  pub stands : HasBytesAt file (values_offset Little file (longs_entry tag (length numbers) at_entry)) (longs numbers)

-- so does the entry of numbers that were written
pub array_back : (file : List ℕ) (offset tag at_value : ℕ) (numbers : List ℕ) (fields : List WrittenField)
    → HasValues file offset fields
    → written_field fields tag ≡ Some (long_field tag (length numbers) (one_or_offset numbers at_value))
    → 1 ≤ length numbers → length file < 4294967296 → (2 ≤ length numbers
    → HasBytesAt file at_value (array_bytes numbers))
    → ArrayThere file (read_fields offset fields) tag numbers
array_back file offset tag at_value numbers fields values found some small after =
    let there = field_there file offset tag fields (long_field tag (length numbers) (one_or_offset numbers at_value))
    values found in
    record {
      at_entry = there.at_entry + 8;
      entry_is = there.entry_is;
      stands = array_there file (there.at_entry + 8) tag at_value numbers some small there.value_is after;
    }

-- such an entry has all the numbers
longs_inside : (file : List ℕ) (p tag : ℕ) (numbers : List ℕ)
    → HasBytesAt file (values_offset Little file (longs_entry tag (length numbers) p)) (longs numbers)
    → has_integers Little file (longs_entry tag (length numbers) p) (length numbers) ≡ true
unfolding has_integers
longs_inside file p tag numbers h = grind (arith, common_steps, length-longs)

pub array_checked : (file : List ℕ) (fields : List Entry) (tag n : ℕ) (numbers : List ℕ)
    → ArrayThere file fields tag numbers
    → n ≡ length numbers
    → IsOk (strip_field Little file fields tag n)
array_checked file fields tag n numbers array count = grind (arith, longs_inside)

-- and each of them is read
long_value : (file : List ℕ) (p tag : ℕ) (numbers : List ℕ) (i : ℕ) → i < length numbers
    → get_or numbers i 0 < 4294967296
    → HasBytesAt file (values_offset Little file (longs_entry tag (length numbers) p)) (longs numbers)
    → value_at Little file (longs_entry tag (length numbers) p) i ≡ get_or numbers i 0
unfolding value_at
long_value file p tag numbers i lt small h = number_there 4 (long_at file _ numbers i lt h) small

pub length-offsets_from : (start : ℕ) (strips : List (List ℕ)) → length (offsets_from start strips) ≡ length strips
length-offsets_from start [] = refl
length-offsets_from start (strip ∷ strips) = ap suc (length-offsets_from (start + length strip) strips)

pub length-lengths_of : (strips : List (List ℕ)) → length (lengths_of strips) ≡ length strips
length-lengths_of [] = refl
length-lengths_of (strip ∷ strips) = ap suc (length-lengths_of strips)

-- each strip stands at its offset
strip_at : (file : List ℕ) (start : ℕ) (strips : List (List ℕ)) (s : ℕ) → s < length strips
    → HasBytesAt file start (joined_strips strips)
    → HasBytesAt file (get_or (offsets_from start strips) s 0) (get_or strips s [])
strip_at file start [] s lt h = absurd (omega arith)
strip_at file start (strip ∷ strips) zero lt h = at_left strip (joined_strips strips) h
strip_at file start (strip ∷ strips) (suc s) lt h =
    strip_at file (start + length strip) strips s (omega arith) (at_right strip (joined_strips strips) h)

-- and has its length
strip_length : (strips : List (List ℕ)) (s : ℕ) → get_or (lengths_of strips) s 0 ≡ length (get_or strips s [])
strip_length [] s = refl
strip_length (strip ∷ strips) zero = refl
strip_length (strip ∷ strips) (suc s) = strip_length strips s

-- a strip is found by the entries of the offsets and of the byte counts
pub strip_there : (file : List ℕ) (start : ℕ) (fields : List Entry) (strips : List (List ℕ)) (s : ℕ) → s < length strips
    → length file < 4294967296
    → HasBytesAt file start (joined_strips strips) → ArrayThere file fields Tags.STRIP_OFFSETS
    (offsets_from start strips)
    → ArrayThere file fields Tags.STRIP_BYTE_COUNTS (lengths_of strips)
    → placed_bytes Little file (field fields Tags.STRIP_OFFSETS) (field fields Tags.STRIP_BYTE_COUNTS) s
    ≡ Some (get_or strips s [])
strip_there file start fields strips s lt small stand offsets lengths =
    let here = strip_at file start strips s lt stand in
    let inside = at_inside (get_or strips s []) here in
    let len = strip_length strips s in
    let offset = long_value file offsets.at_entry Tags.STRIP_OFFSETS (offsets_from start strips) s
    (omega (arith, lt, length-offsets_from start strips)) (omega (arith, inside, small)) offsets.stands in
    let count = long_value file lengths.at_entry Tags.STRIP_BYTE_COUNTS (lengths_of strips) s
    (omega (arith, lt, length-lengths_of strips))
    (omega (arith, inside, small, len)) lengths.stands in
    rw (offsets.entry_is, lengths.entry_is, offset, count, len) (bytes_there (get_or strips s []) here)
