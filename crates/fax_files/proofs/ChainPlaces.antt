-- The offsets of a chain by their places in it.
use Rattle.std.proofs.Common.{◌≡◌, ℕ, zero, suc, ◌+◌, ◌^◌, ◌<◌, ◌≤◌, ◌≢◌, ◌⊎◌, inl, inr, Bool, true, false, ◌||◌, List}
use Rattle.std.proofs.Common.{[], ◌∷◌, length}
use Rattle.std.proofs.Common.{get_or, Option, Some, None, refl, sym, ap, ◌∙◌, arith}
use Rattle.std.specs.Prelude.{◌==◌, slice_get}
use Rattle.std.specs.List.{list_any}
use Rattle.std.proofs.lemmas.Bool.Decides.{nat_tests}
use Rattle.std.proofs.lemmas.List.{get_or-drop}
use Rattle.fax_files.specs.declared.FileFault.{FileFault}
use Rattle.fax_files.specs.declared.FileFault.TheVariants.{DirectoryOutside, DirectoryLoop}
use Rattle.fax_files.specs.declared.Endian.{Endian}
use Rattle.fax_files.specs.Directory.{number_at, is_directory, next_offset}
use Rattle.fax_files.specs.laws.TiffFiles.{IsChainFrom}
use Rattle.fax_files.specs.code.Chain.{link, next_of}
use Rattle.fax_files.proofs.ChainLaws.{IsApart, AreBelow, GoesOn, going_on, still_below, few}

module _ (endian : Endian) (file : List ℕ) where
  abbrev pub next : ℕ → ℕ
  next q = next_offset endian file q

  pub link_next : (next_at i : ℕ) → link endian file next_at (suc i) ≡ next (link endian file next_at i)
  link_next next_at zero = refl
  link_next next_at (suc i) = link_next (next next_at) i

  link_at : (next_at i k m : ℕ) → m ≡ i + k → link endian file next_at m
      ≡ link endian file (link endian file next_at i) k
  link_at next_at zero k m e = let same : m ≡ k = omega arith in ap (link endian file next_at) same
  link_at next_at (suc i) k zero e = absurd (omega arith)
  link_at next_at (suc i) k (suc m) e = link_at (next next_at) i k m (omega arith)

  -- from two places with one offset the chain continues alike
  pub along : (next_at i j k a b : ℕ) → a ≡ i + k → b ≡ j + k → link endian file next_at i ≡ link endian file next_at j
      → link endian file next_at a ≡ link endian file next_at b
  along next_at i j k a b at bt same =
      link_at next_at i k a at ∙ ap (λ (q : ℕ). link endian file q k) same ∙ sym (link_at next_at j k b bt)

  pub onward_on : (before : List ℕ) (q : ℕ) → GoesOn endian file before q → next_of endian file q ≡ Some (next q)
  onward_on before q on = rw (on.not_last, on.there) refl

  -- how the chain ends at its n-th offset
  abbrev pub RowsEndAs : ℕ → ℕ → Option FileFault → Type 0
  RowsEndAs next_at n end =
      (((link endian file next_at n == 0) ≡ true) × (end ≡ None))
      ⊎ (((link endian file next_at n == 0) ≡ false) × (is_directory endian file (link endian file next_at n) ≡ false)
      × (end ≡ Some DirectoryOutside))
      ⊎ ((j : ℕ) × (j < n) × (link endian file next_at n ≡ link endian file next_at j) × (end ≡ Some DirectoryLoop))

  -- the offsets of a chain and its end, by places
  pub record IsByPlaces (next_at : ℕ) (offsets : List ℕ) (end : Option FileFault) : Type 0 where
    pub at : (i : ℕ) → i < length offsets → slice_get offsets i ≡ Some (link endian file next_at i)
    pub on : (i : ℕ) → i < length offsets → (before : List ℕ) × GoesOn endian file before (link endian file next_at i)
    pub apart : (i j : ℕ) → i < j → j < length offsets → link endian file next_at i ≢ link endian file next_at j
    pub ends : RowsEndAs next_at (length offsets) end

  at : (before : List ℕ) (next_at : ℕ) (offsets : List ℕ) (end : Option FileFault)
      → IsChainFrom endian file before next_at offsets end
      → (i : ℕ) → i < length offsets → slice_get offsets i ≡ Some (link endian file next_at i)
  at before next_at [] end is i h = absurd (omega arith)
  at before next_at (q ∷ offsets) end is zero h = ap (λ (n : ℕ). Some n) is.0
  at before next_at (q ∷ offsets) end is (suc i) h = at (next_at
      ∷ before) (next next_at) offsets end is.3 i (omega arith)

  on : (before : List ℕ) (next_at : ℕ) (offsets : List ℕ) (end : Option FileFault)
      → IsChainFrom endian file before next_at offsets end
      → (i : ℕ) → i < length offsets → (some : List ℕ) × GoesOn endian file some (link endian file next_at i)
  on before next_at [] end is i h = absurd (omega arith)
  on before next_at (q ∷ offsets) end is zero h = (before, going_on endian file before next_at is.1 is.2)
  on before next_at (q ∷ offsets) end is (suc i) h = on (next_at
      ∷ before) (next next_at) offsets end is.3 i (omega arith)

  or_right : (a b : Bool) → b ≡ true → (a || b) ≡ true
  or_right a b e = grind arith

  here : (x : ℕ) (xs : List ℕ) → list_any (λ q. x == q) (x ∷ xs) ≡ true
  here x xs = let e : (x == x) ≡ true = grind (arith, nat_tests) in rw e refl

  -- no offset is one of those before
  not_before : (before : List ℕ) (next_at : ℕ) (offsets : List ℕ) (end : Option FileFault)
      → IsChainFrom endian file before next_at offsets end
      → (x : ℕ) → list_any (λ q. x == q) before ≡ true → (j : ℕ) → j < length offsets → x ≢ link endian file next_at j
  not_before before next_at [] end is x there j h = absurd (omega arith)
  not_before before next_at (q ∷ offsets) end is x there zero h = grind arith
  not_before before next_at (q ∷ offsets) end is x there (suc j) h =
      not_before (next_at ∷ before) (next next_at) offsets end is.3 x (or_right (x == next_at) (list_any (λ y. x == y)
      before)
      there) j (omega arith)

  apart : (before : List ℕ) (next_at : ℕ) (offsets : List ℕ) (end : Option FileFault)
      → IsChainFrom endian file before next_at offsets end
      → (i j : ℕ) → i < j → j < length offsets → link endian file next_at i ≢ link endian file next_at j
  apart before next_at [] end is i j lower h = absurd (omega arith)
  apart before next_at (q ∷ offsets) end is i zero lower h = absurd (omega arith)
  apart before next_at (q ∷ offsets) end is zero (suc j) lower h =
      not_before (next_at ∷ before) (next next_at) offsets end is.3 next_at (here next_at before) j (omega arith)
  apart before next_at (q ∷ offsets) end is (suc i) (suc j) lower h =
      apart (next_at ∷ before) (next next_at) offsets end is.3 i j (omega arith) (omega arith)

  -- the same after offsets that stood before: one that is met again is one of those or stands in
  -- the chain
  abbrev EndsAfterPlaces : List ℕ → ℕ → ℕ → Option FileFault → Type 0
  EndsAfterPlaces before next_at n end =
      (((link endian file next_at n == 0) ≡ true) × (end ≡ None))
      ⊎ (((link endian file next_at n == 0) ≡ false) × (is_directory endian file (link endian file next_at n) ≡ false)
      × (end ≡ Some DirectoryOutside))
      ⊎ (((list_any (λ q. link endian file next_at n == q) before ≡ true)
      ⊎ ((j : ℕ) × (j < n) × (link endian file next_at n ≡ link endian file next_at j))) × (end ≡ Some DirectoryLoop))

  met_one_on : (before : List ℕ) (next_at n : ℕ)
      → ((list_any (λ q. link endian file (next next_at) n == q) (next_at ∷ before) ≡ true)
      ⊎ ((j : ℕ) × (j < n) × (link endian file (next next_at) n ≡ link endian file (next next_at) j)))
      → (list_any (λ q. link endian file next_at (suc n) == q) before ≡ true)
      ⊎ ((j : ℕ) × (j < suc n) × (link endian file next_at (suc n) ≡ link endian file next_at j))
  met_one_on before next_at n (inl there) = grind arith
  met_one_on before next_at n (inr p) = inr (suc p.0, omega arith, p.2)

  ends : (before : List ℕ) (next_at : ℕ) (offsets : List ℕ) (end : Option FileFault)
      → IsChainFrom endian file before next_at offsets end
      → EndsAfterPlaces before next_at (length offsets) end
  ends before next_at [] None is = let last : (next_at == 0) ≡ true = rw is refl in inl (last, refl)
  ends before next_at [] (Some fault) is = grind arith
  ends before next_at (q ∷ offsets) end is = elim (ends (next_at ∷ before) (next next_at) offsets end is.3) [
    | inl p ↦ inl p
    | inr (inl p) ↦ inr (inl p)
    | inr (inr p) ↦ inr (inr (met_one_on before next_at (length offsets) p.0, p.1))
  ]

  at_first : (next_at n : ℕ) (end : Option FileFault) → EndsAfterPlaces [] next_at n end → RowsEndAs next_at n end
  at_first next_at n end h = grind arith

  pub by_places : (next_at : ℕ) (offsets : List ℕ) (end : Option FileFault)
      → IsChainFrom endian file [] next_at offsets end
      → IsByPlaces next_at offsets end
  by_places next_at offsets end is = record {
    at = at [] next_at offsets end is;
    on = on [] next_at offsets end is;
    apart = apart [] next_at offsets end is;
    ends = at_first next_at (length offsets) end (ends [] next_at offsets end is);
  }

  -- numbers of four bytes
  module _ (bytes : (k : ℕ) → get_or file k 0 < 256) where
    number_below : (order : Endian) (offset : ℕ) → number_at order 4 file offset < 2 ^ 32
    unfolding number_at
    number_below order offset = grind (arith, get_or-drop)

    short : (before : List ℕ) (next_at : ℕ) (offsets : List ℕ) (end : Option FileFault)
        → IsChainFrom endian file before next_at offsets end
        → IsApart before → AreBelow before (2 ^ 32) → list_any (λ q. 0 == q) before ≡ false → next_at < 2 ^ 32
        → length before + length offsets < 2 ^ 32
    short before next_at [] end is apart all none within =
        let n : length (0 ∷ before) ≤ 2 ^ 32 = few (0 ∷ before) (2 ^ 32) (none, apart)
        (still_below before (2 ^ 32) 0 (omega arith) all) in
        omega arith
    short before next_at (q ∷ offsets) end is apart all none within =
        let on : GoesOn endian file before next_at = going_on endian file before next_at is.1 is.2 in
        let not_first : (0 == next_at) ≡ false = grind (arith, nat_tests, on.not_last) in
        let rest = short (next_at ∷ before) (next next_at) offsets end is.3 (on.fresh, apart)
        (still_below before (2 ^ 32) next_at within all)
        (rw not_first none) (number_below endian _) in
        omega (arith, rest)

    -- a chain has fewer than 2^32 offsets
    pub few_places : (next_at : ℕ) (offsets : List ℕ) (end : Option FileFault)
        → IsChainFrom endian file [] next_at offsets end
        → next_at < 2 ^ 32
        → length offsets < 2 ^ 32
    few_places next_at offsets end is within = grind (arith, short)
