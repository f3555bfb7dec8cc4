-- Lists of which the first items are written, one after another.
use Rattle.std.proofs.Common.{◌≡◌, ℕ, ◌+◌, ◌-◌, ◌<◌, List, [], ◌∷◌, ◌++◌, length, set, take, drop}
use Rattle.std.proofs.Common.{append_assoc, arith}
use Rattle.std.specs.Prelude.{Some, slice_get}
use Rattle.std.proofs.Math.Nat.{add-zero}
use Rattle.std.proofs.lemmas.List.{drop-drop, drop-set, drop-set-add, set-append_right, take_more}
use Rattle.std.proofs.lemmas.Option.{get_or_from_slice_get, slice_get_within}
use Rattle.std.proofs.Math.Seq.{drop-append-add, take-append_seam}

pub take_at : {A : Type 0} (xs : List A) (n : ℕ) (x : A) → slice_get xs n ≡ Some x
    → take (n + 1) xs ≡ take n xs ++ x ∷ []
take_at xs n x e = rw (take_more xs n x (slice_get_within xs n x e), get_or_from_slice_get xs n x x e)

-- one item more is written in its place
pub one_set : {A : Type 0} (front old now : List A) (n : ℕ) (x : A) → length front ≡ n → n < length old
    → now ≡ front ++ drop n old → set now n x ≡ (front ++ x ∷ []) ++ drop (n + 1) old
one_set front old now n x len within is =
    let none : n - n ≡ 0 = omega arith in
    let put : set (drop n old) 0 x ≡ x ∷ drop (n + 1) old =
    rw (← drop-set-add n old 0 x, add-zero) (drop-set old n x within) in
    rw (is, set-append_right front (drop n old) n n x len (omega arith), none, put, append_assoc)

-- more items are written after the first ones
pub more_put : {A : Type 0} (front old now more new : List A) (at to : ℕ) → length front ≡ at
    → now ≡ front ++ drop at old
    → to ≡ at + length more → new ≡ take at now ++ more ++ drop to now → new ≡ (front ++ more) ++ drop to old
more_put front old now more new at to len is to_is new_is = grind (arith, take-append_seam, drop-append-add, drop-drop)
