-- Where the strips of a page begin, and where their bytes stand.
use Rattle.std.proofs.Common.{◌≡◌, ℕ, ◌+◌, ◌-◌, ◌*◌, ◌<◌, ◌≤◌, true, false, List, take, drop, Some, None, refl, arith}
use Rattle.std.proofs.Common.{length, min, inl, inr, ap, sym, ◌∙◌}
use Rattle.std.proofs.lemmas.Bool.{cases_lt}
use Rattle.std.proofs.lemmas.List.{take_all, drop_all, length-drop}
use Rattle.fax_files.specs.Directory.{is_inside, Entry, value_at}
use Rattle.fax_files.specs.BytesInside.{bytes_inside as inside_bytes}
use Rattle.fax_files.specs.Page.{strip_bytes}
use Rattle.fax_files.specs.code.Steps.{bytes_at}
use Rattle.fax_files.specs.views.Page.{strip_count}
use Rattle.fax_files.specs.views.Tiff.{TiffDirectory, bytes_of, inside_of}
use Rattle.fax_files.specs.code.Tiff.{AreStripEntries}

-- a page's strip begins before the page's last row
pub strip_begins_before : (rows rows_per_strip s : ℕ) → 1 ≤ rows_per_strip → s < strip_count rows rows_per_strip
    → s * rows_per_strip < rows
strip_begins_before rows rows_per_strip s some below = grind arith

-- where the bytes of a strip are looked for
pub strip_place : (directory : TiffDirectory) (count s : ℕ) (offsets counts : Entry)
    → AreStripEntries directory count offsets counts
    → bytes_of directory s
    ≡ bytes_at directory.file (value_at directory.endian directory.file offsets s)
    (value_at directory.endian directory.file counts s)
unfolding strip_bytes
strip_place directory count s offsets counts are = rw (strip_bytes, are.offsets_are, are.counts_are) refl

-- bytes that lie in the file
pub bytes_inside : (file : List ℕ) (offset len : ℕ) → is_inside file offset len ≡ true
    → bytes_at file offset len ≡ Some (take (offset + len - offset) (drop offset file))
bytes_inside file offset len inside = grind arith

-- bytes that do not
pub bytes_outside : (file : List ℕ) (offset len : ℕ) → is_inside file offset len ≡ false
    → bytes_at file offset len ≡ None
bytes_outside file offset len outside = rw outside refl

-- and where the bytes of one that may lie partly outside are
pub inside_offset : (directory : TiffDirectory) (count s : ℕ) (offsets counts : Entry)
    → AreStripEntries directory count offsets counts
    → inside_of directory s
    ≡ take (value_at directory.endian directory.file counts s)
    (drop (value_at directory.endian directory.file offsets s) directory.file)
unfolding inside_bytes
inside_offset directory count s offsets counts are = rw (inside_bytes, are.offsets_are, are.counts_are) refl

-- so many bytes at most, or those that are left
take_at_most : (len count : ℕ) (rest : List ℕ) → count ≡ min len (length rest) → take count rest ≡ take len rest
take_at_most len count rest count_is =
    elim (cases_lt len (length rest)) [
      | inl short ↦
          let same : count ≡ len = omega (arith, count_is, short) in
          ap (λ n. take n rest) same
      | inr long ↦
          take_all count rest (omega (arith, count_is, long)) ∙ sym (take_all len rest long)
    ]

-- after so many bytes, or at the end
drop_at_most : (offset begin : ℕ) (file : List ℕ) → begin ≡ min offset (length file)
    → drop begin file ≡ drop offset file
drop_at_most offset begin file begin_is =
    elim (cases_lt offset (length file)) [
      | inl inside ↦
          let same : begin ≡ offset = omega (arith, begin_is, inside) in
          ap (λ n. drop n file) same
      | inr outside ↦
          drop_all begin file (omega (arith, begin_is, outside)) ∙ sym (drop_all offset file outside)
    ]

-- up to the file's end
pub up_to_end : (file : List ℕ) (offset len begin count : ℕ) → begin ≡ min offset (length file)
    → count ≡ min len (length (take (length file - begin) (drop begin file)))
    → take count (take (length file - begin) (drop begin file)) ≡ take len (drop offset file)
up_to_end file offset len begin count begin_is count_is =
    let remaining : length (drop begin file) ≡ length file - begin = length-drop begin file in
    let rest : take (length file - begin) (drop begin file) ≡ drop begin file =
    take_all (length file - begin) (drop begin file) (omega (arith, remaining)) in
    take_at_most len count (take (length file - begin) (drop begin file)) count_is
    ∙ ap (take len) (rest ∙ drop_at_most offset begin file begin_is)
