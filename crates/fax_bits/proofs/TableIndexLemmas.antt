-- A code that is found by its index in a table.
use Rattle.std.proofs.lemmas.Grind.{common_steps}
use Rattle.std.proofs.Common.{◌≡◌, ℕ, zero, suc, ◌+◌, ◌-◌, ◌*◌, ◌/◌, ◌%◌, ◌^◌, ◌<◌, ◌≤◌, List, [], ◌∷◌, ◌++◌, length}
use Rattle.std.proofs.Common.{get_or, Bool, true}
use Rattle.std.proofs.Common.{false, refl, ap, sym, ◌∙◌, subst, arith, inl, inr, append_assoc, length-append}
use Rattle.std.specs.Prelude.{◌&&◌, ◌||◌, Option, Some, None, MatchOption, slice_get, Contains, nat_le}
use Rattle.std.proofs.lemmas.Bool.{and_parts, cases_Bool}
use Rattle.std.proofs.lemmas.Nat.{pow-add, pow_pos, shl_below, shl-shr}
use Rattle.std.proofs.Math.Nat.{div-div-eq-div-mul}
use Rattle.fax_bits.specs.declared.codes.CodeEntry.{CodeEntry}
use Rattle.fax_bits.specs.Bits.{code_bits, StartsWith}
use Rattle.fax_bits.specs.Codes.{bits_of, HasNoCode}
use Rattle.fax_bits.specs.views.Codes.{HasCodeAhead, HasShortCodes, IsPrefixFree}
use Rattle.fax_bits.specs.code.CodeIndexes.{begins, index_after, index_of}
use Rattle.fax_bits.proofs.CodeBitsLemmas.{code_bits-add, length-code_bits}
use Rattle.fax_bits.proofs.FindLemmas.{code_ahead, ahead_is_short, ahead_is_first}
use Rattle.fax_bits.proofs.PrefixLemmas.{takes_one}
use Rattle.fax_bits.proofs.TableLemmas.{listed}

-- what it says that an entry begins the bits
begins_true : {M : Type 0} (entry : CodeEntry M) (width number : ℕ) → begins entry width number ≡ true
    → (entry.len ≤ width) × (number / 2 ^ (width - entry.len) ≡ entry.code)
begins_true entry width number h = grind (arith, common_steps)

pub begins_from : {M : Type 0} (entry : CodeEntry M) (width number : ℕ) → entry.len ≤ width
    → number / 2 ^ (width - entry.len) ≡ entry.code
    → begins entry width number ≡ true
begins_from entry width number short is = grind (arith, common_steps)

-- the index of the first entry, by what it is
first_index : {M : Type 0} (first : CodeEntry M) (table : List (CodeEntry M)) (width number : ℕ)
    → begins first width number ≡ true
    → index_of (first ∷ table) width number ≡ zero
first_index first table width number h = ap (λ b. index_after b (index_of table width number)) h

later_index : {M : Type 0} (first : CodeEntry M) (table : List (CodeEntry M)) (width number : ℕ)
    → begins first width number ≡ false
    → index_of (first ∷ table) width number ≡ suc (index_of table width number)
later_index first table width number h = ap (λ b. index_after b (index_of table width number)) h

-- at the index of a table stands an entry that begins the bits
index_begins : {M : Type 0} (table : List (CodeEntry M)) (width number : ℕ) (entry : CodeEntry M)
    → slice_get table (index_of table width number) ≡ Some entry → begins entry width number ≡ true
index_begins [] width number entry at = cc
index_begins (first ∷ table) width number entry at = grind (arith, index_begins table width number entry)

-- a code that begins thirteen bits, by its index
pub found_at_index : {M : Type 0} (table : List (CodeEntry M)) (number index : ℕ) (entry : CodeEntry M)
    → index ≡ index_of table 13 number
    → slice_get table index ≡ Some entry → HasCodeAhead table (code_bits 13 number) entry.len entry.meaning
found_at_index table number index entry index_is found =
    let is = begins_true entry 13 number (index_begins table 13 number entry
    (ap (slice_get table) (sym index_is) ∙ found)) in
    record {
      entry = entry;
      listed = listed table index entry found;
      length = refl;
      means = refl;
      ahead = code_ahead 13 number entry.len entry.code is.0 is.1;
    }

-- where the index is past the table, no entry begins the bits
past_begins_none : {M : Type 0} (table : List (CodeEntry M)) (width number : ℕ)
    → length table ≤ index_of table width number
    → (k : ℕ) (entry : CodeEntry M) → k < length table → get_or table k entry ≡ entry → begins entry width number ≡ true
    → ⊥
past_begins_none [] width number past k entry within is origin = absurd (omega arith)
past_begins_none (first ∷ table) width number past zero entry within is origin = grind (arith, common_steps)
past_begins_none (first ∷ table) width number past (suc k) entry within is origin =
    elim (cases_Bool (begins first width number)) [
      | inl here ↦ omega (arith, past, first_index first table width number here)
      | inr other ↦
          past_begins_none table width number (omega (arith, past, later_index first table width number other)) k entry
          (omega arith) is
          origin
    ]

-- each code that is longer than `short` bits begins only numbers of 13 bits below `low`
abbrev pub long_codes_test : {M : Type 0} → ℕ → ℕ → List (CodeEntry M) → Bool
long_codes_test short low [] = true
long_codes_test short low (entry ∷ table) =
    (nat_le entry.len 13 && (nat_le entry.len short || nat_le ((entry.code + 1) * 2 ^ (13 - entry.len)) low))
    && long_codes_test short low table

-- the first bits of the first bits
first_of_first : (number width short len : ℕ) → len ≤ short → short ≤ width
    → number / 2 ^ (width - short) / 2 ^ (short - len) ≡ number / 2 ^ (width - len)
first_of_first number width short len in_short in_width =
    let e : width - short + (short - len) ≡ width - len = omega arith in
    div-div-eq-div-mul number (2 ^ (width - short)) (2 ^ (short - len))
    ∙ ap (λ m. number / m) (sym (pow-add 2 (width - short) (short - len))) ∙ ap (λ k. number / 2 ^ k) e

long_is_low : {M : Type 0} (entry : CodeEntry M) (low number : ℕ) → low ≤ number
    → (entry.code + 1) * 2 ^ (13 - entry.len) ≤ low
    → number / 2 ^ (13 - entry.len) ≡ entry.code → ⊥
long_is_low entry low number above below is = grind (arith, common_steps, pow_pos)

-- the test of one entry
same_begins : {M : Type 0} (entry : CodeEntry M) (short low number : ℕ) → short ≤ 13 → low ≤ number
    → (nat_le entry.len 13 && (nat_le entry.len short || nat_le ((entry.code + 1) * 2 ^ (13 - entry.len)) low)) ≡ true
    → begins entry short (number / 2 ^ (13 - short)) ≡ begins entry 13 number
same_begins entry short low number few above test = grind (arith, common_steps, first_of_first, long_is_low)

-- the first `short` bits of 13 tell as much, where they are no beginning of a long code
pub short_index : {M : Type 0} (table : List (CodeEntry M)) (short low number : ℕ) → short ≤ 13
    → long_codes_test short low table ≡ true
    → low ≤ number → index_of table short (number / 2 ^ (13 - short)) ≡ index_of table 13 number
short_index [] short low number few test above = refl
short_index (first ∷ table) short low number few test above =
    let parts = and_parts (nat_le first.len 13 && (nat_le first.len short || nat_le
    ((first.code + 1) * 2 ^ (13 - first.len)) low))
    (long_codes_test short low table) test in
    ap (λ b. index_after b (index_of table short (number / 2 ^ (13 - short))))
    (same_begins first short low number few above parts.0)
    ∙ ap (index_after (begins first 13 number)) (short_index table short low number few parts.1 above)

-- a number of n bits, with zeros after it up to 13 bits
pub aligned-first : (n window len : ℕ) → len ≤ n → n ≤ 13 → window * 2 ^ (13 - n) / 2 ^ (13 - len)
    ≡ window / 2 ^ (n - len)
aligned-first n window len short few =
    let e : 13 - len ≡ (13 - n) + (n - len) = omega arith in
    ap (λ k. window * 2 ^ (13 - n) / 2 ^ k) e
    ∙ ap (λ k. window * 2 ^ (13 - n) / k) (pow-add 2 (13 - n) (n - len))
    ∙ sym (div-div-eq-div-mul (window * 2 ^ (13 - n)) (2 ^ (13 - n)) (2 ^ (n - len)))
    ∙ ap (λ m. m / 2 ^ (n - len)) (shl-shr window (13 - n))

aligned-lt : (n window : ℕ) → n ≤ 13 → window < 2 ^ n → window * 2 ^ (13 - n) < 2 ^ 13
aligned-lt n window few fits =
    let e : n + (13 - n) ≡ 13 = omega arith in
    subst (λ k. window * 2 ^ (13 - n) < 2 ^ k) e (shl_below window n (13 - n) fits)

-- as the program shifts it
aligned_is : (n window : ℕ) → n ≤ 13 → window < 2 ^ n → window * 2 ^ (13 - n) % 2 ^ 32 ≡ window * 2 ^ (13 - n)
aligned_is n window few fits = omega (arith, aligned-lt n window few fits)

aligned_bits : (n window : ℕ) → n ≤ 13 → code_bits 13 (window * 2 ^ (13 - n))
    ≡ code_bits n window ++ code_bits (13 - n) 0
aligned_bits n window few =
    let e : n + (13 - n) ≡ 13 = omega arith in
    let none : window * 2 ^ (13 - n) + 0 ≡ window * 2 ^ (13 - n) = omega arith in
    sym (ap (λ k. code_bits k (window * 2 ^ (13 - n) + 0)) e ∙ ap (code_bits 13) none)
    ∙ code_bits-add n (13 - n) window 0 (pow_pos (13 - n))

-- what begins n bits begins them with zeros after
aligned_ahead : (n window len code : ℕ) → n ≤ 13 → StartsWith (code_bits n window) (code_bits len code)
    → StartsWith (code_bits 13 (window * 2 ^ (13 - n))) (code_bits len code)
aligned_ahead n window len code few ahead = (
  ahead.0 ++ code_bits (13 - n) 0,
  aligned_bits n window few ∙ ap (λ b. b ++ code_bits (13 - n) 0) ahead.1
      ∙ append_assoc (code_bits len code) ahead.0 (code_bits (13 - n) 0),
)

module _ {M : Type 0} (table : List (CodeEntry M)) (short : HasShortCodes table) (free : IsPrefixFree table)
    (n window index : ℕ)
    (few : n ≤ 13)
    (fits : window < 2 ^ n) (index_is : index ≡ index_of table 13 (window * 2 ^ (13 - n))) where
  -- an entry that begins n bits
  ahead_begins : (entry : CodeEntry M) → Contains table entry → StartsWith (code_bits n window) (bits_of entry)
      → begins entry 13 (window * 2 ^ (13 - n)) ≡ true
  ahead_begins entry here ahead =
      let within : entry.len ≤ n = ahead_is_short n window entry.len entry.code ahead in
      begins_from entry 13 (window * 2 ^ (13 - n)) (omega arith)
      (aligned-first n window entry.len within few
      ∙ ahead_is_first n window entry.len entry.code within fits (short entry here).2 ahead)

  index_past : length table ≤ index → HasNoCode table (code_bits n window)
  index_past past entry here ahead = grind (arith, past_begins_none, ahead_begins)

  -- the entry at the index
  at_index : (entry : CodeEntry M) → slice_get table index ≡ Some entry
      → (entry.len ≤ 13) × (window * 2 ^ (13 - n) / 2 ^ (13 - entry.len) ≡ entry.code)
  at_index entry found =
      begins_true entry 13 (window * 2 ^ (13 - n)) (index_begins table 13 (window * 2 ^ (13 - n)) entry
      (ap (slice_get table) (sym index_is) ∙ found))

  index_found : (entry : CodeEntry M) → slice_get table index ≡ Some entry → entry.len ≤ n
      → HasCodeAhead table (code_bits n window) entry.len entry.meaning
  index_found entry found within = record {
    entry = entry;
    listed = listed table index entry found;
    length = refl;
    means = refl;
    ahead = code_ahead n window entry.len entry.code within
        (sym (aligned-first n window entry.len within few) ∙ (at_index entry found).1);
  }

  -- the code at the index is longer than n bits: it and a shorter one would begin the same 13 bits
  index_long : (entry : CodeEntry M) → slice_get table index ≡ Some entry → n < entry.len
      → HasNoCode table (code_bits n window)
  index_long entry found long other here ahead =
      let number = window * 2 ^ (13 - n) in
      let whole = code_ahead 13 number entry.len entry.code (at_index entry found).0 (at_index entry found).1 in
      let shorter = aligned_ahead n window other.len other.code few ahead in
      let one = takes_one table free (code_bits 13 number) entry.meaning other.meaning whole.0 shorter.0
      (record { entry = entry; listed = listed table index entry found; means = refl; spelled = whole.1 })
      (record { entry = other; listed = here; means = refl; spelled = shorter.1 }) in
      omega (
        arith,
        long,
        ahead_is_short n window other.len other.code ahead,
        ap length one.1,
        ap length whole.1,
        ap length shorter.1,
        length-append (bits_of entry) whole.0,
        length-append (bits_of other) shorter.0,
        length-code_bits entry.len entry.code,
        length-code_bits other.len other.code,
      )

-- what `find` answers by the entry at the index: a code of at most n bits, or none
pub found_by_index : {M : Type 0} (table : List (CodeEntry M)) → HasShortCodes table → IsPrefixFree table
    → (n window index : ℕ) → n ≤ 13
    → window < 2 ^ n → index ≡ index_of table 13 (window * 2 ^ (13 - n) % 2 ^ 32) → (entry : CodeEntry M)
    → slice_get table index ≡ Some entry → (found : Option (ℕ × M))
    → MatchOption found (n < entry.len) (λ found. (entry.len ≤ n) × (found.0 ≡ entry.len) × (found.1 ≡ entry.meaning))
    → MatchOption found (HasNoCode table (code_bits n window))
    (λ found. HasCodeAhead table (code_bits n window) found.0 found.1)
found_by_index table short free n window index few fits index_is entry at None long =
    index_long table short free n window index few fits (index_is
    ∙ ap (index_of table 13) (aligned_is n window few fits)) entry at long
found_by_index table short free n window index few fits index_is entry at (Some found) is =
    grind (arith, index_found, aligned_is)

-- where the index is past the table, it returns none
pub none_by_index : {M : Type 0} (table : List (CodeEntry M)) → HasShortCodes table → IsPrefixFree table
    → (n window index : ℕ) → n ≤ 13
    → window < 2 ^ n → index ≡ index_of table 13 (window * 2 ^ (13 - n) % 2 ^ 32) → length table ≤ index
    → HasNoCode table (code_bits n window)
none_by_index table short free n window index few fits index_is past =
    index_past table short free n window index few fits (index_is
    ∙ ap (index_of table 13) (aligned_is n window few fits)) past

-- thirteen bits: the window with zeros after it
pub aligned_fits : (n window : ℕ) → n ≤ 13 → window < 2 ^ n → window * 2 ^ (13 - n) % 2 ^ 32 < 2 ^ 13
aligned_fits n window few fits = omega (arith, aligned_is n window few fits, aligned-lt n window few fits)
