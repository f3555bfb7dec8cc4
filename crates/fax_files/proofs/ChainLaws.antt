-- Each file has one chain of directories.
use Rattle.std.proofs.Common.{◌≡◌, ℕ, zero, suc, ◌+◌, ◌<◌, ◌≤◌, Bool, true, false, ◌||◌, eqb, List, [], ◌∷◌}
use Rattle.std.proofs.Common.{length, Option, Some, None, ◌≢◌, refl, arith}
use Rattle.std.specs.Prelude.{◌==◌}
use Rattle.std.specs.List.{list_any, IsDistinct, All}
use Rattle.std.proofs.lemmas.List.Elements.{All-nil, All-cons, recursion_from_All}
use Rattle.std.proofs.lemmas.Map.Steps.{length-le_from_distinct_below}
use Rattle.fax_files.specs.declared.FileFault.{FileFault}
use Rattle.fax_files.specs.declared.Endian.{Endian}
use Rattle.std.proofs.lemmas.Bool.Decides.{nat_tests}
use Rattle.fax_files.specs.Directory.{ChainRead, Header, is_directory, next_offset, read_chain}
use Rattle.fax_files.specs.Directory.{read_chain_from}
use Rattle.fax_files.specs.laws.TiffFiles.{HasOneChain, IsChainFrom, offset_fault}

-- the chain continues at an offset
pub record GoesOn (endian : Endian) (file before : List ℕ) (next_at : ℕ) : Type 0 where
  pub not_last : (next_at == 0) ≡ false
  pub fresh : list_any (λ q. next_at == q) before ≡ false
  pub there : is_directory endian file next_at ≡ true

pub going_on : (endian : Endian) (file before : List ℕ) (next_at : ℕ) → next_at ≢ 0
    → offset_fault endian file before next_at ≡ None
    → GoesOn endian file before next_at
going_on endian file before next_at some e = grind arith

-- a directory that is there begins inside the file
pub begins_inside : (endian : Endian) (file : List ℕ) (q : ℕ) → is_directory endian file q ≡ true → q < length file
begins_inside endian file q e = grind arith

-- no two of the offsets are equal
abbrev pub IsApart : List ℕ → Type 0
IsApart [] = Unit {0}
IsApart (x ∷ xs) = (list_any (λ q. x == q) xs ≡ false) × IsApart xs

pub neither : (a b : Bool) → (a || b) ≡ false → (a ≡ false) × (b ≡ false)
neither a b e = grind arith

apart_from_all : (x : ℕ) (xs : List ℕ) → list_any (λ q. x == q) xs ≡ false → All (λ y. eqb x y ≡ false) xs
apart_from_all x [] e = All-nil (λ y. eqb x y ≡ false)
apart_from_all x (y ∷ ys) e =
    let p = neither (x == y) (list_any (λ q. x == q) ys) e in
    All-cons (λ z. eqb x z ≡ false) y ys p.0 (apart_from_all x ys p.1)

distinct : (xs : List ℕ) → IsApart xs → IsDistinct eqb xs
unfolding IsDistinct
distinct [] a = tt
distinct (x ∷ xs) a = (recursion_from_All (λ y. eqb x y ≡ false) xs (apart_from_all x xs a.0), distinct xs a.1)

abbrev pub AreBelow : List ℕ → ℕ → Type 0
AreBelow xs n = (q : ℕ) → list_any (λ x. q == x) xs ≡ true → q < n

pub still_below : (xs : List ℕ) (n x : ℕ) → x < n → AreBelow xs n → AreBelow (x ∷ xs) n
still_below xs n x within all = grind arith

pub few : (xs : List ℕ) (n : ℕ) → IsApart xs → AreBelow xs n → length xs ≤ n
few xs n apart all = length-le_from_distinct_below xs n (distinct xs apart) all

-- an offset that is not 0 is not the last one
pub not_last : (next_at : ℕ) → next_at ≢ 0 → (next_at == 0) ≡ false
not_last next_at some = grind (arith, nat_tests)

module _ (endian : Endian) (file : List ℕ) where
  -- the limit is as high as there may be directories after those before, which are apart
  record HasRoom (limit : ℕ) (before : List ℕ) : Type 0 where
    count : length before + limit ≡ suc (length file)
    apart : IsApart before
    below : AreBelow before (length file)

  are_few : (limit : ℕ) (before : List ℕ) → HasRoom limit before → length before ≤ length file
  are_few limit before room = few before (length file) room.apart room.below

  no_room : (before : List ℕ) → HasRoom 0 before → ⊥
  no_room before room = omega (arith, room.count, are_few 0 before room)

  room_on : (limit : ℕ) (before : List ℕ) (next_at : ℕ) → HasRoom (suc limit) before → GoesOn endian file before next_at
      → HasRoom limit (next_at ∷ before)
  room_on limit before next_at room on = record {
    count = omega (arith, room.count);
    apart = (on.fresh, room.apart);
    below = still_below before (length file) next_at (begins_inside endian file next_at on.there) room.below;
  }

  abbrev read : ℕ → List ℕ → ℕ → ChainRead
  read limit before next_at = read_chain_from limit endian file before next_at

  -- what is read at an offset, by its fault
  abbrev read_by : ℕ → List ℕ → ℕ → Option FileFault → ChainRead
  read_by limit before next_at (Some fault) = record { offsets = []; end = Some fault }
  read_by limit before next_at None =
      let more = read limit (next_at ∷ before) (next_offset endian file next_at) in
      record more { offsets = next_at ∷ more.offsets }

  by_fault : (limit : ℕ) (before : List ℕ) (next_at : ℕ) → next_at ≢ 0
      → read (suc limit) before next_at ≡ read_by limit before next_at (offset_fault endian file before next_at)
  unfolding read_chain_from
  by_fault limit before next_at some = grind (arith, not_last)

  -- what is read is a chain, with at most as many directories as the file has bytes
  abbrev IsWhole : List ℕ → ℕ → ChainRead → Type 0
  IsWhole before next_at chain =
      IsChainFrom endian file before next_at chain.offsets chain.end
      × (length before + length chain.offsets ≤ length file)

  at_offset : (limit : ℕ) (before : List ℕ) (next_at : ℕ) → next_at ≢ 0 → HasRoom (suc limit) before
      → (GoesOn endian file before next_at → IsWhole (next_at ∷ before) (next_offset endian file next_at)
      (read limit (next_at ∷ before) (next_offset endian file next_at)))
      → (fault : Option FileFault) → offset_fault endian file before next_at ≡ fault
      → IsWhole before next_at (read (suc limit) before next_at)
  at_offset limit before next_at some room rest (Some fault) e =
      rw (by_fault limit before next_at some, e) ((some, e), omega (arith, are_few (suc limit) before room))
  at_offset limit before next_at some room rest None e =
      let more = rest (going_on endian file before next_at some e) in
      rw (by_fault limit before next_at some, e) ((refl, some, e, more.0), omega (arith, more.1))

  whole : (limit : ℕ) (before : List ℕ) (next_at : ℕ) → HasRoom limit before
      → IsWhole before next_at (read limit before next_at)
  unfolding read_chain_from
  whole zero before next_at room = absurd (no_room before room)
  whole (suc limit) before zero room =
      (refl, omega (arith, are_few (suc limit) before room))
  whole (suc limit) before (suc n) room =
      at_offset limit before (suc n) (λ e. absurd cc) room (λ on.
      whole limit (suc n ∷ before) (next_offset endian file (suc n)) (room_on limit before (suc n) room on))
      (offset_fault endian file before (suc n)) refl

  -- and there is no other
  one : (limit : ℕ) (before : List ℕ) (next_at : ℕ) (offsets : List ℕ) (end : Option FileFault) → HasRoom limit before
      → IsChainFrom endian file before next_at offsets end
      → read limit before next_at ≡ record { offsets = offsets; end = end }
  unfolding read_chain_from
  one zero before next_at offsets end room is = absurd (no_room before room)
  one (suc limit) before next_at [] None room is = rw (is, read_chain_from) refl
  one (suc limit) before next_at [] (Some fault) room is = rw (by_fault limit before next_at is.0, is.1) refl
  one (suc limit) before next_at (q ∷ offsets) end room (is, some, good, rest) =
      let on = going_on endian file before next_at some good in
      let more = one limit (next_at ∷ before) (next_offset endian file next_at) offsets end
      (room_on limit before next_at room on) rest in
      rw (by_fault limit before next_at some, good, more, is) refl

pub has_one_chain : (head : Header) (file : List ℕ) → HasOneChain head file
unfolding read_chain
has_one_chain head file =
    let room : HasRoom head.endian file (suc (length file)) [] =
    record { count = omega arith; apart = tt; below = λ q e. absurd cc } in
    let found = whole head.endian file (suc (length file)) [] head.first room in
    record {
      is = found.0;
      few = omega (arith, found.1);
      one = λ other is. one head.endian file (suc (length file)) [] head.first other.offsets other.end room is;
    }
