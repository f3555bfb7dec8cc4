-- What the grammar says of one word, of numbers and of uses that differ, and what scanning computes
-- of them.
use Rattle.std.proofs.Common.{◌≡◌, ◌≢◌, ◌<◌, ◌||◌, ◌++◌, arith, refl}
use Rattle.std.proofs.Common.{true, false, ℕ, zero, suc, List, [], ◌∷◌, length}
use Rattle.std.specs.Prelude.{nat_lt, not}
use Rattle.std.specs.Char.{digit_value}
use Rattle.std.specs.List.{All, AllPairs, list_all, slice_index_or}
use Rattle.std.specs.Str.{bytes_eq}
use Rattle.std.specs.Str.Parse.{AllDigits}
use Rattle.std.proofs.lemmas.List.Elements.{All-cons, All-head, All-nil, All-tail}
use Rattle.std.proofs.lemmas.List.Folds.{list_any-append}
use Rattle.std.proofs.lemmas.Bool.{lt-ltb, ltb-true, not-true}
use Rattle.clap.proofs.WalkLemmas.{both}
use Rattle.std.proofs.lemmas.Slice.Eq.{bytes_eq-Decides}
use Rattle.fax_tool.specs.Grammar.{IsNumberText, Text, Use, name_of}
use Rattle.fax_tool.specs.code.Scan.{are_apart, is_number, is_used}

-- ---- numbers

digits_scanned : (ds : Text) → AllDigits 10 ds → list_all (λ d. nat_lt (digit_value d) 10) ds ≡ true
digits_scanned [] all = refl
digits_scanned (d ∷ ds) all = rw (lt-ltb (digit_value d) 10 all.0) (digits_scanned ds all.1)

scanned_digits : (ds : Text) → list_all (λ d. nat_lt (digit_value d) 10) ds ≡ true → AllDigits 10 ds
scanned_digits [] all = tt
scanned_digits (d ∷ ds) all =
    let of = both (nat_lt (digit_value d) 10) (list_all (λ d. nat_lt (digit_value d) 10) ds) all in
    (ltb-true (digit_value d) 10 of.0, scanned_digits ds of.1)

pub number_scanned : (most : ℕ) (value : Text) → IsNumberText most value → is_number most value ≡ true
number_scanned most value is = grind (arith, digits_scanned)

pub scanned_number : (most : ℕ) (value : Text) → is_number most value ≡ true → IsNumberText most value
scanned_number most value is = grind (arith, scanned_digits)

-- ---- uses of names that differ

abbrev AreApart : List Use → Type 0
AreApart = AllPairs (λ one other. name_of one.item ≢ name_of other.item)

-- a use of no name that is used before
abbrev IsNew : List Use → Use → Type 0
IsNew before u = is_used (name_of u.item) before ≡ false

used_more : (name : Text) (before : List Use) (u : Use)
    → is_used name (before ++ u ∷ []) ≡ (is_used name before || bytes_eq (name_of u.item) name)
used_more name before u = grind (arith, list_any-append)

pub names_differ : (a b : Text) → a ≢ b → bytes_eq a b ≡ false
names_differ a b differ = grind (arith, bytes_eq-Decides)

new_after : (before : List Use) (one other : Use) → IsNew before other → name_of one.item ≢ name_of other.item
    → IsNew (before ++ one ∷ []) other
new_after before one other new differ = grind (arith, used_more, names_differ)

apart_from : (before uses : List Use) → All (IsNew before) uses → AreApart uses → are_apart before uses ≡ true
apart_from before [] new apart = refl
apart_from before (u ∷ us) new apart =
    let others = apart_from (before ++ u ∷ []) us
    (λ k d low. new_after before u (slice_index_or us k d) (All-tail (IsNew before) u us new k d low)
    (apart 0 (suc k) d (omega arith) (omega arith)))
    (λ i j d low high. apart (suc i) (suc j) d (omega arith) (omega arith)) in
    rw (All-head (IsNew before) u us new, others) refl

pub apart_scanned : (uses : List Use) → AreApart uses → are_apart [] uses ≡ true
apart_scanned uses apart = apart_from [] uses (λ k d low. refl) apart

new_and_other : (before : List Use) (one other : Use) → IsNew (before ++ one ∷ []) other
    → IsNew before other × (name_of one.item ≢ name_of other.item)
new_and_other before one other new = grind (arith, used_more, bytes_eq-Decides)

apart_cons : (u : Use) (us : List Use) → All (λ other. name_of u.item ≢ name_of other.item) us → AreApart us
    → AreApart (u ∷ us)
apart_cons u us differ apart zero zero d low high = omega arith
apart_cons u us differ apart zero (suc j) d low high = differ j d (omega arith)
apart_cons u us differ apart (suc i) zero d low high = omega arith
apart_cons u us differ apart (suc i) (suc j) d low high = apart i j d (omega arith) (omega arith)

from_apart : (before uses : List Use) → are_apart before uses ≡ true → All (IsNew before) uses × AreApart uses
from_apart before [] is = (All-nil (IsNew before), λ i j d low high. omega arith)
from_apart before (u ∷ us) is =
    let of = both (not (is_used (name_of u.item) before)) _ is in
    let others = from_apart (before ++ u ∷ []) us of.1 in
    let each = λ (k : ℕ) (d : Use) (low : k < length us). new_and_other before u (slice_index_or us k d)
    (others.0 k d low) in (
      All-cons (IsNew before) u us (not-true (is_used (name_of u.item) before) of.0) (λ k d low. (each k d low).0),
      apart_cons u us (λ k d low. (each k d low).1) others.1,
    )

pub scanned_apart : (uses : List Use) → are_apart [] uses ≡ true → AreApart uses
scanned_apart uses is = (from_apart [] uses is).1
