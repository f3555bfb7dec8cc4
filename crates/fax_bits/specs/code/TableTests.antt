-- Tests of a whole table that are computed, and the rules that hold at each entry of a table that
-- passes.
use Rattle.std.proofs.Common.{◌≡◌, ℕ, zero, suc, ◌^◌, ◌<◌, ◌≤◌, List, [], ◌∷◌, ◌++◌, length, get_or}
use Rattle.std.proofs.Common.{map, Bool, true, false, not, refl, ap, sym, ◌∙◌, subst, arith}
use Rattle.std.specs.Prelude.{◌&&◌, nat_lt, nat_le, Some, slice_get}
use Rattle.std.proofs.lemmas.Bool.{and_parts, leb-true, ltb-true}
use Rattle.std.proofs.lemmas.List.{get_or-map, length-map}
use Rattle.std.proofs.lemmas.Option.{slice_get_within, get_or_from_slice_get}
use Rattle.fax_bits.specs.declared.codes.CodeEntry.{CodeEntry}
use Rattle.fax_bits.specs.declared.codes.TheConstants.{LONGEST_CODE}
use Rattle.fax_bits.specs.Codes.{bits_of}
use Rattle.fax_bits.specs.views.Codes.{HasShortCodes, IsPrefixFree}

-- the first list begins the second
abbrev pub starts : List Bool → List Bool → Bool
starts [] ys = true
starts (x ∷ xs) [] = false
starts (true ∷ xs) (true ∷ ys) = starts xs ys
starts (false ∷ xs) (false ∷ ys) = starts xs ys
starts (_ ∷ xs) (_ ∷ ys) = false

-- the code begins none of the others, and none of them begins it
abbrev pub none_starts : List Bool → List (List Bool) → Bool
none_starts code [] = true
none_starts code (other ∷ others) =
    (not (starts code other) && not (starts other code)) && none_starts code others

-- no code begins another
abbrev pub prefix_free_test : List (List Bool) → Bool
prefix_free_test [] = true
prefix_free_test (code ∷ codes) = none_starts code codes && prefix_free_test codes

-- each code has 1 to 13 bits, and its number no more than these
abbrev pub short_codes_test : {M : Type 0} → List (CodeEntry M) → Bool
short_codes_test [] = true
short_codes_test (entry ∷ table) =
    ((nat_lt 0 entry.len && nat_le entry.len LONGEST_CODE) && nat_lt entry.code (2 ^ entry.len))
    && short_codes_test table

not_true : (b : Bool) → not b ≡ true → b ≡ false
not_true true h = cc
not_true false h = refl

starts-append : (code more : List Bool) → starts code (code ++ more) ≡ true
starts-append [] more = refl
starts-append (true ∷ code) more = starts-append code more
starts-append (false ∷ code) more = starts-append code more

starts-from_append : (code other more : List Bool) → other ≡ code ++ more → starts code other ≡ true
starts-from_append code other more is = ap (starts code) is ∙ starts-append code more

none_starts-at : (code : List Bool) (others : List (List Bool)) (j : ℕ) → j < length others
    → none_starts code others ≡ true
    → (starts code (get_or others j []) ≡ false) × (starts (get_or others j []) code ≡ false)
none_starts-at code [] j within h = absurd (omega arith)
none_starts-at code (other ∷ others) zero within h =
    let here = and_parts _ _ (and_parts _ _ h).0 in
    (not_true _ here.0, not_true _ here.1)
none_starts-at code (other ∷ others) (suc j) within h =
    none_starts-at code others j (omega arith) (and_parts
    (not (starts code other) && not (starts other code)) _ h).1

-- the one place of a code
same_place : (codes : List (List Bool)) (i j : ℕ) (more : List Bool) → prefix_free_test codes ≡ true
    → i < length codes → j < length codes
    → get_or codes j [] ≡ get_or codes i [] ++ more → i ≡ j
same_place [] i j more free here there is = absurd (omega arith)
same_place (code ∷ codes) zero zero more free here there is = refl
same_place (code ∷ codes) zero (suc j) more free here there is =
    let apart = none_starts-at code codes j (omega arith)
    (and_parts (none_starts code codes) (prefix_free_test codes) free).0 in
    absurd (cc (apart.0, starts-from_append code (get_or codes j []) more is))
same_place (code ∷ codes) (suc i) zero more free here there is =
    let apart = none_starts-at code codes i (omega arith)
    (and_parts (none_starts code codes) (prefix_free_test codes) free).0 in
    absurd (cc (apart.1, starts-from_append (get_or codes i []) code more is))
same_place (code ∷ codes) (suc i) (suc j) more free here there is =
    ap suc (same_place codes i j more (and_parts (none_starts code codes) (prefix_free_test codes)
    free).1 (omega arith) (omega arith) is)

-- the code at a place, as the test lists it
code_at : {M : Type 0} (table : List (CodeEntry M)) (i : ℕ) (entry : CodeEntry M)
    → slice_get table i ≡ Some entry
    → get_or (map bits_of table) i [] ≡ bits_of entry
code_at table i entry found =
    get_or-map bits_of table i entry [] (slice_get_within table i entry found)
    ∙ ap bits_of (get_or_from_slice_get table i entry entry found)

-- from the computed test to the rule: no code begins the code at another place
pub is_prefix_free : {M : Type 0} (table : List (CodeEntry M))
    → prefix_free_test (map bits_of table) ≡ true → IsPrefixFree table
is_prefix_free table free i j entry other more here there is =
    same_place (map bits_of table) i j more free
    (simp length-map (slice_get_within table i entry here))
    (simp length-map (slice_get_within table j other there))
    (code_at table j other there ∙ is
    ∙ ap (λ code. code ++ more) (sym (code_at table i entry here)))

entry_is_short : {M : Type 0} (table : List (CodeEntry M)) (i : ℕ) (entry : CodeEntry M)
    → short_codes_test table ≡ true → i < length table
    → get_or table i entry ≡ entry → (0 < entry.len) × (entry.len ≤ LONGEST_CODE)
    × (entry.code < 2 ^ entry.len)
entry_is_short [] i entry short within is = absurd (omega arith)
entry_is_short (first ∷ table) zero entry short within is =
    let here = and_parts ((nat_lt 0 first.len && nat_le first.len LONGEST_CODE)
    && nat_lt first.code (2 ^ first.len)) (short_codes_test table) short in
    let lengths = and_parts (nat_lt 0 first.len && nat_le first.len LONGEST_CODE)
    (nat_lt first.code (2 ^ first.len)) here.0 in
    let ends = and_parts (nat_lt 0 first.len) (nat_le first.len LONGEST_CODE) lengths.0 in
    let P : CodeEntry _ → Type 0 = λ e. (0 < e.len) × (e.len ≤ LONGEST_CODE) ×
    (e.code < 2 ^ e.len) in
    subst P is (
      ltb-true 0 first.len ends.0,
      leb-true first.len LONGEST_CODE ends.1,
      ltb-true
          first.code (2 ^ first.len) lengths.1,
    )
entry_is_short (first ∷ table) (suc i) entry short within is =
    entry_is_short table i entry
    (and_parts ((nat_lt 0 first.len && nat_le first.len LONGEST_CODE) && nat_lt first.code
    (2 ^ first.len))
    (short_codes_test table) short).1
    (omega arith) is

-- from the computed test to the rule: the codes are short
pub has_short_codes : {M : Type 0} (table : List (CodeEntry M)) → short_codes_test table ≡ true
    → HasShortCodes table
has_short_codes table short entry here = entry_is_short table here.0 entry short here.1 here.2
