-- The fields of a written directory are read as they were written.
use Rattle.std.proofs.Common.{◌≡◌, ℕ, ◌+◌, ◌*◌, ◌<◌, ◌≤◌, Bool, true, false, cond, List, [], ◌∷◌, ◌++◌, length, Ok}
use Rattle.std.proofs.Common.{refl, ap, arith}
use Rattle.std.proofs.lemmas.List.{length-append}
use Rattle.std.proofs.lemmas.Bool.{le-leb, lt-ltb}
use Rattle.std.specs.Prelude.{◌&&◌, flat_map, Option, Some, None, nat_lt, find, ◌==◌}
use Rattle.fax_files.specs.Directory.{Entry, FileFault, is_inside, entries_at, field, scalar, values_offset, value_at}
use Rattle.fax_files.specs.Directory.{has_integers}
use Rattle.fax_files.specs.code.Steps.{first_number, first_value, good_rational}
use Rattle.fax_files.proofs.PageFormLemmas.{taken}
use Rattle.fax_files.specs.code.Entries.{entry_at}
use Rattle.fax_files.specs.declared.Endian.TheVariants.{Little}
use Rattle.fax_files.specs.views.Page.{IsGoodRational}
use Rattle.fax_files.specs.Page.{rational_of}
use Rattle.fax_files.specs.Layout.{two, four, WrittenField, field_bytes}
use Rattle.fax_files.specs.code.PageParts.{long_field, short_field, rational_field, rational_bytes}
use Rattle.fax_files.proofs.FileOffsetLemmas.{HasBytesAt, at_offset, at_left, at_right, at_inside, number_there}
use Rattle.fax_files.specs.declared.tags.TheConstants as Tags

-- a field's numbers fit their bytes
pub record Fits (written : WrittenField) : Type 0 where
  pub tag : written.tag < 65536
  pub kind : written.kind < 65536
  pub count : written.count < 4294967296
  pub value : length written.value ≡ 4

abbrev pub AllFit : List WrittenField → Type 0
AllFit [] = Unit {0}
AllFit (written ∷ fields) = Fits written × AllFit fields

-- the same by computing
abbrev pub fits : WrittenField → Bool
fits written =
    nat_lt written.tag 65536 && (nat_lt written.kind 65536 && (nat_lt written.count 4294967296 &&
    (length written.value == 4)))

-- the entry that is read of a field at a place
abbrev pub read_field : ℕ → WrittenField → Entry
read_field offset written = record {
  tag = written.tag;
  kind = written.kind;
  count = written.count;
  offset = offset + 8;
}

-- the entries that are read of fields from a place on
abbrev pub read_fields : ℕ → List WrittenField → List Entry
read_fields offset [] = []
read_fields offset (written ∷ fields) = read_field offset written ∷ read_fields (offset + 12) fields

-- the values of fields from a place on stand in the file
abbrev pub HasValues : List ℕ → ℕ → List WrittenField → Type 0
HasValues file offset [] = Unit {0}
HasValues file offset (written ∷ fields) = HasBytesAt file (offset + 8) written.value
    × HasValues file (offset + 12) fields

pub length-field_bytes : (written : WrittenField) → Fits written → length (field_bytes written) ≡ 12
unfolding field_bytes
length-field_bytes written fits = grind arith

-- fields take twelve bytes each
pub length-fields : (fields : List WrittenField) → AllFit fields
    → length (flat_map field_bytes fields) ≡ 12 * length fields
length-fields [] fit = refl
length-fields (written ∷ fields) fit = grind (arith, length-append, length-field_bytes, length-fields fields)

entry_there : (file : List ℕ) (p : ℕ) (written : WrittenField) → Fits written → HasBytesAt file p (field_bytes written)
    → entry_at Little file p ≡ read_field p written
unfolding field_bytes
entry_there file p written fits h =
    let numbers = at_left (two written.tag ++ two written.kind ++ four written.count) written.value h in
    let tags = at_left (two written.tag ++ two written.kind) (four written.count) numbers in
    let tag = number_there 2 (at_left (two written.tag) (two written.kind) tags) fits.tag in
    let kind = number_there 2 (at_right (two written.tag) (two written.kind) tags) fits.kind in
    let count = number_there 4 (at_right (two written.tag ++ two written.kind) (four written.count) numbers) fits.count
    in
    rw (tag, kind, count) refl

value_there : (file : List ℕ) (p : ℕ) (written : WrittenField) → HasBytesAt file p (field_bytes written)
    → HasBytesAt file (p + 8) written.value
unfolding field_bytes
value_there file p written h = at_right (two written.tag ++ two written.kind ++ four written.count) written.value h

-- what is read of fields that stand one after the other
pub entries_there : (file : List ℕ) (p : ℕ) (fields : List WrittenField) → AllFit fields
    → HasBytesAt file p (flat_map field_bytes fields)
    → (entries_at Little file p (length fields) ≡ read_fields p fields) × HasValues file p fields
unfolding entries_at
entries_there file p [] fit h = (refl, tt)
entries_there file p (written ∷ fields) fit h =
    let here = at_left (field_bytes written) (flat_map field_bytes fields) h in
    let after = at_offset (ap (λ (n : ℕ). p + n) (length-field_bytes written fit.0))
    (at_right (field_bytes written) (flat_map field_bytes fields) h) in
    let rest = entries_there file (p + 12) fields fit.1 after in
    (rw (entry_there file p written fit.0 here, rest.0) refl, (value_there file p written here, rest.1))

-- the first field of a tag, where it is read and where its value stands
pub record FieldThere (file : List ℕ) (offset tag : ℕ) (fields : List WrittenField) (written : WrittenField) : Type 0
  where
    pub at_entry : ℕ
    pub entry_is : field (read_fields offset fields) tag ≡ Some (read_field at_entry written)
    pub value_is : HasBytesAt file (at_entry + 8) written.value

-- the first field of a tag
abbrev pub written_field : List WrittenField → ℕ → Option WrittenField
written_field fields tag = find (λ written. written.tag == tag) fields

pub field_there : (file : List ℕ) (offset tag : ℕ) (fields : List WrittenField) (written : WrittenField)
    → HasValues file offset fields
    → written_field fields tag ≡ Some written → FieldThere file offset tag fields written
field_there file offset tag [] written values found = absurd cc
field_there file offset tag (first ∷ fields) written values found =
    step (first.tag == tag) refl found (λ f. field_there file (offset + 12) tag fields written values.1 f)
  where
    step : (same : Bool) → (first.tag == tag) ≡ same → cond same (Some first) (written_field fields tag) ≡ Some written
        → (written_field fields tag ≡ Some written → FieldThere file (offset + 12) tag fields written)
        → FieldThere file offset tag (first ∷ fields) written
    step true e f rest = grind arith
    step false e f rest = grind arith

-- no field of a tag is read where none was written
pub no_field : (file : List ℕ) (offset tag : ℕ) (fields : List WrittenField) → written_field fields tag ≡ None
    → field (read_fields offset fields) tag ≡ None
no_field file offset tag [] none = refl
no_field file offset tag (first ∷ fields) none =
    step (first.tag == tag) refl none (λ f. no_field file (offset + 12) tag fields f)
  where
    step : (same : Bool) → (first.tag == tag) ≡ same → cond same (Some first) (written_field fields tag) ≡ None
        → (written_field fields tag ≡ None → field (read_fields (offset + 12) fields) tag ≡ None)
        → field (read_fields offset (first ∷ fields)) tag ≡ None
    step true e f rest = grind arith
    step false e f rest = grind arith

-- the value of a field with one Tags.LONG
pub long_there : (file : List ℕ) (p tag n : ℕ) → n < 4294967296 → HasBytesAt file p (four n)
    → first_value Little file (record { tag = tag; kind = Tags.LONG; count = 1; offset = p }) ≡ Ok n
unfolding has_integers value_at values_offset
long_there file p tag n lt h =
    let zero_on : p + 0 * 4 ≡ p = omega arith in
    let inside : is_inside file p 4 ≡ true = le-leb _ _ (at_inside (four n) h) in
    rw (inside, zero_on, number_there 4 h lt) refl

-- the value of a field with one Tags.SHORT
pub short_there : (file : List ℕ) (p tag n : ℕ) → n < 65536 → HasBytesAt file p (two n ++ two 0)
    → first_value Little file (record { tag = tag; kind = Tags.SHORT; count = 1; offset = p }) ≡ Ok n
unfolding has_integers value_at values_offset
short_there file p tag n lt h =
    let zero_on : p + 0 * 2 ≡ p = omega arith in
    let short = at_left (two n) (two 0) h in
    let inside : is_inside file p 2 ≡ true = le-leb _ _ (at_inside (two n) short) in
    rw (inside, zero_on, number_there 2 short lt) refl

-- a rational that a field points to
pub rational_there : (file : List ℕ) (p tag offset x y : ℕ) → offset < 4294967296 → 1 ≤ x → x < 4294967296 → 1 ≤ y
    → y < 4294967296
    → HasBytesAt file p (four offset) → HasBytesAt file offset (four x ++ four y)
    → good_rational Little file (record { tag = tag; kind = Tags.RATIONAL; count = 1; offset = p }) ≡ Some (x, y)
unfolding values_offset
rational_there file p tag offset x y lt some_x x_lt some_y y_lt h there =
    let at = number_there 4 h lt in
    let inside : is_inside file offset 8 ≡ true = le-leb _ _ (at_inside (four x ++ four y) there) in
    let top = number_there 4 (at_left (four x) (four y) there) x_lt in
    let bottom = number_there 4 (at_right (four x) (four y) there) y_lt in
    let top_above : nat_lt 0 x ≡ true = lt-ltb _ _ some_x in
    let bottom_above : nat_lt 0 y ≡ true = lt-ltb _ _ some_y in
    rw (at, inside, top, bottom, top_above, bottom_above) refl

-- So a field is read by its tag alone, wherever it stands.
module _ (file : List ℕ) (offset tag n : ℕ) (fields : List WrittenField) (values : HasValues file offset fields)
    (absent : Option ℕ)
    (test : ℕ → Bool) (fault : ℕ → FileFault) (passes : test n ≡ true) where
  pub long_read : written_field fields tag ≡ Some (long_field tag 1 n) → n < 4294967296
      → scalar Little file (read_fields offset fields) tag absent test fault ≡ Ok n
  long_read found lt =
      let there = field_there file offset tag fields (long_field tag 1 n) values found in
      taken Little file (read_fields offset fields) tag absent test fault n
      (rw (first_number, there.entry_is) (long_there file (there.at_entry + 8) tag n lt there.value_is)) passes

  pub short_read : written_field fields tag ≡ Some (short_field tag n) → n < 65536
      → scalar Little file (read_fields offset fields) tag absent test fault ≡ Ok n
  short_read found lt =
      let there = field_there file offset tag fields (short_field tag n) values found in
      taken Little file (read_fields offset fields) tag absent test fault n
      (rw (first_number, there.entry_is) (short_there file (there.at_entry + 8) tag n lt there.value_is)) passes

pub rational_back : (file : List ℕ) (offset tag at_value : ℕ) (value : ℕ × ℕ) (fields : List WrittenField)
    → HasValues file offset fields
    → written_field fields tag ≡ Some (rational_field tag at_value) → at_value < 4294967296 → IsGoodRational value
    → HasBytesAt file at_value (rational_bytes value)
    → rational_of Little file (read_fields offset fields) tag ≡ Some value
unfolding rational_of
rational_back file offset tag at_value value fields values found lt good stands =
    let there = field_there file offset tag fields (rational_field tag at_value) values found in
    rw (rational_of, there.entry_is) (rational_there file (there.at_entry + 8) tag at_value value.0 value.1 lt
    good.some_top good.top
    good.some_bottom good.bottom there.value_is stands)
