-- The first entries of the tags that are looked for.
use Rattle.std.proofs.Common.{◌≡◌, ◌≢◌, ℕ, zero, suc, ◌+◌, ◌-◌, ◌*◌, ◌<◌, ◌≤◌, Bool, true, false, ◌&&◌, List, [], ◌∷◌}
use Rattle.std.proofs.Common.{length, get_or}
use Rattle.std.proofs.Common.{Option, Some, None, Result, Ok, Err, inl, inr, refl, sym, ◌∙◌, arith, get_or-set_other}
use Rattle.std.proofs.Common.{get_or-set_same}
use Rattle.std.specs.Prelude.{IsTrue, IfSome, ◌==◌, MatchResult, nat_lt}
use Rattle.std.specs.List.Sorted.{IsBinarySearchResult}
use Rattle.std.specs.Ordering.{nat_cmp}
use Rattle.std.proofs.Math.ListN.{set, length-set}
use Rattle.std.proofs.Math.Nat.{eq-or-lt_of_le}
use Rattle.std.proofs.lemmas.Bool.{ltb-true, eqb-true, eq-eqb, ne_eqb, and_parts, cases_eq, cases_lt, le-ltb}
use Rattle.std.proofs.lemmas.List.Sorted.{searched}
use Rattle.std.proofs.lemmas.List.{get_or_default}
use Rattle.std.proofs.lemmas.List.Folds.{Any-from_list_any}
use Rattle.std.proofs.lemmas.Grind.{get_or_default_zero}
use Rattle.fax_files.specs.declared.fields.TheConstants.{TAGS}
use Rattle.fax_files.specs.declared.Endian.{Endian}
use Rattle.fax_files.specs.Directory.{Entry, entries_at, field, ascend, number_at}
use Rattle.fax_files.specs.code.Entries.{entry_at}
use Rattle.fax_files.specs.code.Fields.{is_sought, AreFirst}

-- numbers that rise
rises : List ℕ → Bool
rises [] = true
rises (a ∷ []) = true
rises (a ∷ b ∷ rest) = nat_lt a b && rises (b ∷ rest)

rises_after : (a : ℕ) (rest : List ℕ) → rises (a ∷ rest) ≡ true → rises rest ≡ true
unfolding rises
rises_after a rest up = grind arith

first_is_least : (a : ℕ) (rest : List ℕ) → rises (a ∷ rest) ≡ true → (j : ℕ) → j < length rest → a < get_or rest j 0
unfolding rises
first_is_least a [] up j inside = absurd (omega arith)
first_is_least a (b ∷ rest) up zero inside = ltb-true _ _ (and_parts (nat_lt a b) (rises (b ∷ rest)) up).0
first_is_least a (b ∷ rest) up (suc j) inside =
    let both = and_parts (nat_lt a b) (rises (b ∷ rest)) up in
    let after : b < get_or rest j 0 = first_is_least b rest both.1 j (omega arith) in
    let first : a < b = ltb-true _ _ both.0 in
    omega arith

rising : (xs : List ℕ) → rises xs ≡ true → (i j : ℕ) → i < j → j < length xs → get_or xs i 0 < get_or xs j 0
rising [] up i j lt inside = absurd (omega arith)
rising (a ∷ rest) up i zero lt inside = absurd (omega arith)
rising (a ∷ rest) up zero (suc j) lt inside = first_is_least a rest up j (omega arith)
rising (a ∷ rest) up (suc i) (suc j) lt inside = rising rest (rises_after a rest up) i j (omega arith) (omega arith)

-- the tags that are looked for rise
tags_rise : (i j : ℕ) → i < j → j < length TAGS → get_or TAGS i 0 < get_or TAGS j 0
unfolding rises
tags_rise i j lt inside = rising TAGS refl i j lt inside

not_below : (i j : ℕ) → i ≤ j → j < length TAGS → get_or TAGS i 0 ≤ get_or TAGS j 0
not_below i j le inside =
    elim (eq-or-lt_of_le le) [ inl e ↦ rw e (omega arith) | inr lt ↦ (let up = tags_rise i j lt inside in omega arith) ]

-- so no two of them are the same
apart : (i j : ℕ) → i < length TAGS → j < length TAGS → i ≢ j → get_or TAGS i 0 ≢ get_or TAGS j 0
apart i j i_inside j_inside ne e = elim (cases_lt i j) [
  | inl lt ↦ (let up = tags_rise i j lt j_inside in absurd (omega arith))
  | inr le ↦ (let up = tags_rise j i (omega arith) i_inside in absurd (omega arith))
]

-- where a tag stands among them, or that it does not
abbrev pub IsSearched : ℕ → Result ℕ ℕ → Type 0
IsSearched tag (Ok i) = (i < length TAGS) × (get_or TAGS i 0 ≡ tag)
IsSearched tag (Err i) = (k : ℕ) → k < length TAGS → get_or TAGS k 0 ≢ tag

pub tag_searched : (tag : ℕ) (found : Result ℕ ℕ) → IsBinarySearchResult (λ y. nat_cmp y tag) TAGS found
    → IsSearched tag found
tag_searched tag found h = answer found (searched TAGS tag found h not_below)
  where
    answer : (r : Result ℕ ℕ)
        → MatchResult r (λ i. (i < length TAGS) × (get_or TAGS i 0 ≡ tag))
        (λ i. (i ≤ length TAGS) × ((k : ℕ) → k < i → get_or TAGS k 0 < tag)
        × ((k : ℕ) → i ≤ k → k < length TAGS → tag < get_or TAGS k 0))
        → IsSearched tag r
    answer r there = grind arith

-- an entry of a tag that is looked for
pub seen : (entry : Entry) (fields : List Entry) (first : List (Option Entry)) (slot : ℕ) → slot < length TAGS
    → get_or TAGS slot 0 ≡ entry.tag
    → AreFirst fields first → AreFirst (entry ∷ fields) (set first slot (Some entry))
seen entry fields first slot inside same h = record {
  count = length-set first slot (Some entry) ∙ h.count;
  first_is = λ i lt. elim (cases_eq i slot) [
    | inl e ↦
        (let there : slot < length first = omega (arith, h.count) in
        let hit : (entry.tag == get_or TAGS slot 0) ≡ true = eq-eqb _ _ (sym same) in
        rw (e, hit) (get_or-set_same first slot (Some entry) None there))
    | inr ne ↦
        (let miss : (entry.tag == get_or TAGS i 0) ≡ false = ne_eqb _ _
        (λ e. apart i slot lt inside ne (sym e ∙ sym same)) in
        rw miss (get_or-set_other first slot i (Some entry) None ne ∙ h.first_is i lt))
  ];
}

-- an entry of another tag
pub passed : (entry : Entry) (fields : List Entry) (first : List (Option Entry))
    → ((k : ℕ) → k < length TAGS → get_or TAGS k 0 ≢ entry.tag)
    → AreFirst fields first → AreFirst (entry ∷ fields) first
passed entry fields first other h = record {
  count = h.count;
  first_is = λ i lt.
      let ne : (entry.tag == get_or TAGS i 0) ≡ false = ne_eqb _ _ (λ e. other i lt (sym e)) in
      h.first_is i lt ∙ sym (rw ne refl);
}

-- the entry at the place of a tag is the first of that tag
pub found_first : (fields : List Entry) (first : List (Option Entry)) (slot tag : ℕ) (other : Option Entry)
    → slot < length TAGS
    → get_or TAGS slot 0 ≡ tag
    → AreFirst fields first → get_or first slot other ≡ field fields tag
found_first fields first slot tag other inside is h = grind (arith, get_or_default)

-- a tag that is looked for stands among them
pub sought_stands : (tag : ℕ) → IsTrue (is_sought tag) → ((k : ℕ) → k < length TAGS → get_or TAGS k 0 ≢ tag) → ⊥
sought_stands tag sought none =
    let there = Any-from_list_any (λ (known : ℕ). known == tag) TAGS sought in
    none there.0 there.2 (sym (get_or_default_zero TAGS there.0 there.1 there.2) ∙ there.3
    ∙ eqb-true there.1 tag there.4)

-- an entry that was found lies in the file
pub entry_inside : (endian : Endian) (file : List ℕ) (offset n tag : ℕ) (found : Option Entry)
    → offset + 12 * n ≤ length file
    → found ≡ field (entries_at endian file offset n) tag → IfSome found (λ entry. entry.offset + 4 ≤ length file)
unfolding entries_at
entry_inside endian file offset zero tag found inside is = rw is tt
entry_inside endian file offset (suc n) tag found inside is = grind (
  arith,
  entry_inside endian file (offset + 12) n
      tag,
)

-- the first entry of a tag among `count` entries at `start`, from the k-th on, which is this one
module _ (endian : Endian) (file : List ℕ) (start count k tag : ℕ) (entry : Entry) (within : k < count)
    (is : entry ≡ entry_at endian file (start + 12 * k)) where
  from_here : entries_at endian file (start + 12 * k) (count - k)
      ≡ entry ∷ entries_at endian file (start + 12 * (k + 1)) (count - (k + 1))
  unfolding entries_at
  from_here =
      let n : count - k ≡ suc (count - (k + 1)) = omega arith in
      let next : start + 12 * k + 12 ≡ start + 12 * (k + 1) = omega arith in
      rw (n, next, is) refl

  pub first_here : entry.tag ≡ tag → field (entries_at endian file (start + 12 * k) (count - k)) tag ≡ Some entry
  first_here hit = rw (from_here, eq-eqb _ _ hit) refl

  pub first_later : entry.tag ≢ tag → field (entries_at endian file (start + 12 * k) (count - k)) tag
      ≡ field (entries_at endian file (start + 12 * (k + 1)) (count - (k + 1))) tag
  first_later miss = rw (from_here, ne_eqb _ _ miss) refl

-- among no more entries there is none
pub first_nowhere : (endian : Endian) (file : List ℕ) (offset count k tag : ℕ) → count ≤ k
    → field (entries_at endian file offset (count - k)) tag ≡ None
unfolding entries_at
first_nowhere endian file offset count k tag end =
    let n : count - k ≡ zero = omega arith in
    rw n refl

-- after the last entry there is none
pub none_left : (endian : Endian) (file : List ℕ) (offset count : ℕ) (first : List (Option Entry)) → AreFirst [] first
    → AreFirst (entries_at endian file offset (count - count)) first
unfolding entries_at
none_left endian file offset count first none = grind arith

-- an entry, and those after it
pub one_more : (endian : Endian) (file : List ℕ) (start count k : ℕ) (entry : Entry) (old new : List (Option Entry))
    → 0 < k → k ≤ count
    → entry ≡ entry_at endian file (start + 12 * (k - 1))
    → AreFirst (entries_at endian file (start + 12 * k) (count - k)) old
    → ((fields : List Entry) → AreFirst fields old → AreFirst (entry ∷ fields) new)
    → AreFirst (entries_at endian file (start + 12 * (k - 1)) (count - (k - 1))) new
unfolding entries_at
one_more endian file start count k entry old new some within is so_far seen =
    let n : count - (k - 1) ≡ suc (count - k) = omega arith in
    let next : start + 12 * (k - 1) + 12 ≡ start + 12 * k = omega arith in
    rw (n, next, ← is) (seen _ so_far)

-- two entries or more ascend where the first two do and all from the second on do
two_ascend : (endian : Endian) (file : List ℕ) (offset n m : ℕ) → n ≡ suc m → 0 < m
    → ascend (entries_at endian file offset n)
    ≡ (nat_lt (number_at endian 2 file offset) (number_at endian 2 file (offset + 12)) && ascend
    (entries_at endian file (offset + 12) m))
unfolding entries_at
two_ascend endian file offset n zero is some = absurd (omega arith)
two_ascend endian file offset n (suc m) is some = rw is refl

-- fewer than two always do
few_ascend : (endian : Endian) (file : List ℕ) (offset n : ℕ) → n ≤ 1 → ascend (entries_at endian file offset n) ≡ true
unfolding entries_at
few_ascend endian file offset n few = grind arith

-- the tags of the entries at `start`, from the one before the k-th on
module _ (endian : Endian) (file : List ℕ) (start count k : ℕ) (total : Bool) (some : 1 ≤ k)
    (so_far : ascend (entries_at endian file (start + 12 * (k - 1)) (count - (k - 1))) ≡ total) where
  abbrev before : ℕ
  before = number_at endian 2 file (start + 12 * k - 12)

  abbrev here : ℕ
  here = number_at endian 2 file (start + 12 * k)

  after : k < count → total ≡ (nat_lt before here && ascend (entries_at endian file (start + 12 * k) (count - k)))
  after within = grind (arith, two_ascend)

  pub out_of_order : k < count → here ≤ before → false ≡ total
  out_of_order within above = sym (after within ∙ rw (le-ltb before here above) refl)

  pub still_in_order : k < count → before < here
      → ascend (entries_at endian file (start + 12 * (k + 1 - 1)) (count - (k + 1 - 1))) ≡ total
  still_in_order within below = grind (arith, after)

  pub in_order_to_the_end : count ≤ k → true ≡ total
  in_order_to_the_end end = sym (few_ascend endian file (start + 12 * (k - 1)) (count - (k - 1)) (omega arith)) ∙ so_far
