-- The runs and the changing elements of a row, written at a place.
use Rattle.std.proofs.Common.{◌≡◌, ℕ, ◌+◌, ◌<◌, ◌≤◌, List, [], ◌∷◌, ◌++◌, length, set, take, drop, Bool, sym, ◌∙◌}
use Rattle.std.proofs.Common.{append_assoc, arith, length-append}
use Rattle.std.specs.List.{filter}
use Rattle.std.proofs.lemmas.List.{length-take-le}
use Rattle.std.proofs.lemmas.List.FromFn.{length-range_with_len}
use Rattle.fax_rows.specs.Rows.{Colour}
use Rattle.fax_c.specs.Changes.{changes_of}
use Rattle.fax_c.proofs.ListLemmas.{one_set}

length-filter-le : (p : ℕ → Bool) (xs : List ℕ) → length (filter p xs) ≤ length xs
length-filter-le p [] = omega arith
length-filter-le p (x ∷ xs) = grind (arith, length-filter-le p xs)

pub has_few_changes : (row : List Colour) → length (changes_of row) ≤ length row
has_few_changes row = grind (arith, length-range_with_len, length-filter-le)

-- the first of these runs are written at a place
pub record AreRunsPut (all remaining : List ℕ) (at to : ℕ) (old now : List ℕ) : Type 0 where
  pub front : List ℕ
  pub all_is : all ≡ front ++ remaining
  pub to_is : to ≡ at + length front
  pub room : at + length all ≤ length old
  pub now_is : now ≡ (take at old ++ front) ++ drop to old

pub one_put : (all remaining rest : List ℕ) (at to run : ℕ) (old now : List ℕ) → AreRunsPut all remaining at to old now
    → remaining ≡ run ∷ rest → AreRunsPut all rest at (to + 1) old (set now to run)
one_put all remaining rest at to run old now so_far is =
    let front = so_far.front in
    let begin = take at old ++ front in
    let all_is : all ≡ front ++ run ∷ rest = rw is at so_far.all_is in
    let len_all : length all ≡ length front + length (run ∷ rest) = rw all_is (length-append front (run ∷ rest)) in
    let within : at ≤ length old = omega (arith, so_far.room) in
    let len : length begin ≡ to = rw (length-append, length-take-le at old within) (sym so_far.to_is) in
    let below : to < length old = omega (arith, len_all, so_far.room, so_far.to_is) in
    record {
      front = front ++ run ∷ [];
      all_is = all_is ∙ sym (append_assoc front (run ∷ []) rest);
      to_is = omega (arith, so_far.to_is, length-append front (run ∷ []));
      room = so_far.room;
      now_is = rw (← append_assoc (take at old) front _) (one_set begin old now to run len below so_far.now_is);
    }
