-- A row whose colours are exchanged: it begins with one change at 0 more, or with one less.
use Rattle.fax_rows.proofs.ColourLemmas.{other-other}
use Rattle.std.proofs.lemmas.Grind.{common_steps}
use Rattle.std.proofs.Common.{◌≡◌, ℕ, zero, suc, ◌+◌, ◌-◌, ◌<◌, ◌≤◌, List, [], ◌∷◌, length, take, drop, get_or, map}
use Rattle.std.proofs.Common.{true}
use Rattle.std.proofs.Common.{refl, sym, ap, ◌∙◌, subst, arith, inl, inr}
use Rattle.std.proofs.Math.Nat.{eq-or-lt_of_le}
use Rattle.std.specs.Prelude.{nat_le}
use Rattle.std.proofs.lemmas.Bool.{le-leb}
use Rattle.std.proofs.lemmas.List.{ext_get_or, get_or-map, get_or-take, length-map, length-take-le}
use Rattle.fax_bits.specs.declared.Colour.{Colour}
use Rattle.fax_bits.specs.declared.Colour.TheVariants.{White, Black}
use Rattle.fax_rows.specs.Rows.{other}
use Rattle.fax_rows.specs.code.ChangeLists.{toggled, pels_of_changes, AreChanges, IsToggledFrom}
use Rattle.fax_rows.proofs.TurnLemmas.{length-pels_of_changes, pel-pels_of_changes}
use Rattle.fax_rows.proofs.PlacedRowLemmas.{end_within}

-- places turn the opposite colour to the opposite one
pub toggled-other : (c : Colour) (changes : List ℕ) (i : ℕ) → toggled (other c) changes i ≡ other (toggled c changes i)
unfolding toggled
toggled-other c [] i = refl
toggled-other c (p ∷ changes) i = grind (arith, toggled-other (other c) changes i)

-- a change at 0 turns all pels
twice_at_first : (changes : List ℕ) (i : ℕ) → toggled Black (0 ∷ 0 ∷ changes) i ≡ other (toggled Black (0 ∷ changes) i)
unfolding toggled
twice_at_first changes i = let at : nat_le 0 i ≡ true = le-leb 0 i (omega arith)
    in rw at (toggled-other White changes i)

-- a 0 that is put before the first place
pub put_first : (old new rest : List ℕ) → new ≡ 0 ∷ old → old ≡ 0 ∷ rest → IsToggledFrom old new 0
put_first old new rest new_is old_is = grind (arith, common_steps, twice_at_first)

-- and one that is taken away
pub take_first : (old new rest : List ℕ) → old ≡ 0 ∷ new → new ≡ 0 ∷ rest → IsToggledFrom old new 0
take_first old new rest old_is new_is = record {
  left_hand = λ i h. absurd (omega arith);
  right = λ i h.
      let back = put_first new old rest old_is new_is in
      sym (ap other (back.right i h) ∙ other-other (toggled Black new i));
}

-- a list that begins with a 0
begins_with_0 : (changes : List ℕ) → 0 < length changes → get_or changes 0 0 ≡ 0 → changes ≡ 0 ∷ drop 1 changes
begins_with_0 changes some first = grind arith

-- the first of some places, and a 0 before them
longer_by_0 : (few more : List ℕ) (n : ℕ) → n ≤ length few → n + 1 ≤ length more → get_or more 0 0 ≡ 0
    → ((k : ℕ) → k < n → get_or more (suc k) 0 ≡ get_or few k 0) → take (n + 1) more ≡ 0 ∷ take n few
longer_by_0 few more n within room first each =
    ext_get_or 0 (take (n + 1) more) (0 ∷ take n few) (omega (arith, long, length-take-le n few within)) at
  where
    long : length (take (n + 1) more) ≡ n + 1
    long = length-take-le (n + 1) more room

    at : (k : ℕ) → k < length (take (n + 1) more) → get_or (take (n + 1) more) k 0 ≡ get_or (0 ∷ take n few) k 0
    at k h = grind (arith, common_steps)

-- the places of a row that begins black, and those after the first of them
module _ (old new : List ℕ) (end width : ℕ) (all : AreChanges old end width) (black : get_or old 1 0 ≡ 0)
    (len : length new ≡ length old)
    (each : (k : ℕ) → suc k < length old → get_or new k 0 ≡ get_or old (suc k) 0) where
  pub some_change : 1 < end
  some_change = grind (arith, common_steps)

  pub without_first : AreChanges new (end - 1) width
  without_first = record {
    some = all.some;
    short = all.short;
    room = len ∙ all.room;
    ascending = record {
      started = omega (arith, some_change);
      within = omega (arith, all.ascending.within);
      first = each 0 (omega (arith, all.room)) ∙ black;
      steps = λ i h l.
          let here : get_or new i 0 ≡ get_or old (suc i) 0 = each i (omega (arith, all.ascending.within)) in
          let there : get_or new (i + 1) 0 ≡ get_or old (suc (i + 1)) 0 =
          each (i + 1) (omega (arith, all.ascending.within)) in
          let same : suc i + 1 ≡ suc (i + 1) = omega arith in
          let up : get_or old (suc i) 0 < get_or old (suc (i + 1)) 0 =
          subst (λ m. get_or old (suc i) 0 < get_or old m 0) same
          (all.ascending.steps (suc i) (omega arith) (omega arith)) in
          omega arith;
    };
    below = λ i h l.
        let here : get_or new i 0 ≡ get_or old (suc i) 0 = each i (omega (arith, all.ascending.within)) in
        let less = all.below (suc i) (omega arith) (omega arith) in
        omega arith;
    after = λ i h.
        let started = some_change in
        let at : suc (end - 1 + i) ≡ end + i = omega arith in
        each (end - 1 + i) (omega (arith, all.room, end_within all)) ∙ ap (λ m. get_or old m 0) at ∙ all.after i h;
  }

  pub turned_white : IsToggledFrom (take end old) (take (end - 1) new) 0
  turned_white =
      let started = some_change in
      let same : end - 1 + 1 ≡ end = omega arith in
      let first : get_or (take (end - 1) new) 0 0 ≡ 0 = get_or-take (end - 1) new 0 0 (omega arith)
      ∙ each 0 (omega (arith, all.room)) ∙ black in
      take_first (take end old) (take (end - 1) new) (drop 1 (take (end - 1) new))
      (ap (λ n. take n old) (sym same) ∙ longer_by_0 new old (end - 1) (omega (arith, all.ascending.within))
      (omega (arith, all.ascending.within))
      all.ascending.first (λ k h. sym (each k (omega (arith, all.ascending.within)))))
      (begins_with_0 (take (end - 1) new) (omega (
        arith,
        length-take-le (end - 1) new
            (omega (arith, all.ascending.within)),
      )) first)

-- the places of a row that begins white, and a 0 before them
module _ (old new : List ℕ) (end width : ℕ) (all : AreChanges old end width) (white : 0 < get_or old 1 0)
    (len : length new ≡ length old)
    (first : get_or new 0 0 ≡ 0) (each : (k : ℕ) → suc k < length old → get_or new (suc k) 0 ≡ get_or old k 0) where
  -- each place is at least as large as there are changes before it, and one more
  above : (i : ℕ) → 0 < i → i < end → i ≤ get_or old i 0
  above zero some h = absurd (omega arith)
  above (suc zero) some h = white
  above (suc (suc i)) some h = grind (arith, common_steps, above (suc i) (omega arith) (omega arith))

  few_changes : end ≤ width
  few_changes =
      elim (eq-or-lt_of_le all.ascending.started) [
        | inl one ↦ let some = all.some in omega arith
        | inr more ↦ omega (
          arith,
          above (end - 1) (omega arith) (omega arith),
          all.below (end - 1) (omega arith)
              (omega arith),
        )
      ]

  steps_up : (i : ℕ) → 0 < i → i + 1 < end + 1 → get_or new i 0 < get_or new (i + 1) 0
  steps_up i some h = grind (arith, common_steps, few_changes)

  all_below : (i : ℕ) → 0 < i → i < end + 1 → get_or new i 0 < width
  all_below i some h = grind (arith, common_steps)

  pub with_first : AreChanges new (end + 1) width
  with_first = grind (arith, few_changes, steps_up, all_below)

  pub turned_black : IsToggledFrom (take end old) (take (end + 1) new) 0
  turned_black =
      let start : get_or (take end old) 0 0 ≡ 0 = get_or-take end old 0 0 all.ascending.started ∙ all.ascending.first in
      put_first (take end old) (take (end + 1) new) (drop 1 (take end old))
      (longer_by_0 old new end all.ascending.within (omega (arith, few_changes, all.room, len)) first
      (λ k h. each k (omega (arith, few_changes, all.room))))
      (begins_with_0 (take end old) (omega (arith, length-take-le end old all.ascending.within, all.ascending.started))
      start)

-- a row whose places are turned from its first pel on
pub exchanged : (width : ℕ) (old new : List ℕ) → IsToggledFrom old new 0
    → pels_of_changes width new ≡ map other (pels_of_changes width old)
exchanged width old new toggle_change =
    ext_get_or White (pels_of_changes width new) (map other (pels_of_changes width old))
    (length-pels_of_changes width new ∙ sym (length-map (pels_of_changes width old) other
    ∙ length-pels_of_changes width old))
    (λ k h. let inside : k < width = omega (arith, length-pels_of_changes width new) in
    let short : k < length (pels_of_changes width old) = omega (arith, length-pels_of_changes width old) in
    pel-pels_of_changes width new k inside ∙ toggle_change.right k (omega arith)
    ∙ ap other (sym (pel-pels_of_changes width old k inside))
    ∙ sym (get_or-map other (pels_of_changes width old) k White White short))
