-- Rows by their places of change: the pel at a place, and where it changes.
use Rattle.fax_rows.proofs.ColourLemmas.{same_as, other_than}
use Rattle.std.proofs.lemmas.Grind.{common_steps}
use Rattle.std.proofs.Common.{◌≡◌, ℕ, zero, suc, ◌+◌, ◌-◌, ◌%◌, ◌<◌, ◌≤◌, List, [], ◌∷◌, ◌++◌, length, take, get_or}
use Rattle.std.proofs.Common.{true, false, refl}
use Rattle.std.proofs.Common.{ap, sym, ◌∙◌, subst, arith, inl, inr}
use Rattle.std.specs.Prelude.{◌⊎◌, nat_le, if◌then◌else◌}
use Rattle.std.proofs.lemmas.Bool.{le-leb, lt-leb}
use Rattle.std.proofs.Math.Nat.{eq-or-lt_of_le}
use Rattle.std.proofs.lemmas.List.{get_or-take, length-take-le}
use Rattle.std.proofs.lemmas.List.FromFn.{get_or-map-range_with_len, length-map-range_with_len}
use Rattle.fax_bits.specs.declared.Colour.{Colour}
use Rattle.fax_bits.specs.declared.Colour.TheVariants.{White, Black}
use Rattle.fax_rows.specs.Rows.{other, pel, is_changing}
use Rattle.fax_rows.specs.code.ChangeLists.{toggled, pels_of_changes, alternate, IsAscending, AreChangesUpTo}

-- a row has its width
pub length-pels_of_changes : (width : ℕ) (changes : List ℕ) → length (pels_of_changes width changes) ≡ width
unfolding pels_of_changes
length-pels_of_changes width changes = length-map-range_with_len (toggled Black changes) 0 width

-- the pel at a place is black turned by each change that is not right of it
pub pel-pels_of_changes : (width : ℕ) (changes : List ℕ) (i : ℕ) → i < width
    → pel (pels_of_changes width changes) i ≡ toggled Black changes i
unfolding pels_of_changes
pel-pels_of_changes width changes i h = get_or-map-range_with_len (toggled Black changes) 0 width i i White h (omega
    arith)

-- a place more turns the pels from there on, and no others
pub toggled-push_left : (c : Colour) (changes : List ℕ) (q i : ℕ) → i < q
    → toggled c (changes ++ q ∷ []) i ≡ toggled c changes i
unfolding toggled
toggled-push_left c [] q i h = rw (lt-leb q i h) refl
toggled-push_left c (p ∷ changes) q i h = toggled-push_left (if nat_le p i then other c else c) changes q i h

pub toggled-push_right : (c : Colour) (changes : List ℕ) (q i : ℕ) → q ≤ i
    → toggled c (changes ++ q ∷ []) i ≡ other (toggled c changes i)
unfolding toggled
toggled-push_right c [] q i h = rw (le-leb q i h) refl
toggled-push_right c (p ∷ changes) q i h = toggled-push_right (if nat_le p i then other c else c) changes q i h

pub alternate-suc : (c : Colour) (k : ℕ) → alternate c (suc k) ≡ other (alternate c k)
alternate-suc c zero = refl
alternate-suc c (suc k) = alternate-suc (other c) k

-- white after an odd number of turns from black
pub alternate-odd : (k : ℕ) → k % 2 ≡ 1 → alternate Black k ≡ White
alternate-odd zero h = absurd (omega arith)
alternate-odd (suc zero) h = refl
alternate-odd (suc (suc k)) h = alternate-odd k (omega arith)

pub alternate-even : (k : ℕ) → k % 2 ≡ 0 → alternate Black k ≡ Black
alternate-even zero h = refl
alternate-even (suc zero) h = absurd (omega arith)
alternate-even (suc (suc k)) h = alternate-even k (omega arith)

-- the first k places are not right of i, and the others are
toggled-rank : (c : Colour) (changes : List ℕ) (i k : ℕ) → k ≤ length changes
    → ((j : ℕ) → j < k → get_or changes j 0 ≤ i) → ((j : ℕ) → k ≤ j → j < length changes → i < get_or changes j 0)
    → toggled c changes i ≡ alternate c k
unfolding toggled
toggled-rank c [] i zero within left_hand right = refl
toggled-rank c [] i (suc k) within left_hand right = absurd (omega arith)
toggled-rank c (p ∷ changes) i zero within left_hand right =
    rw (lt-leb p i (right zero (omega arith) (omega arith)))
    (toggled-rank c changes i zero (omega arith) (λ j h. absurd (omega arith))
    (λ j h l. right (suc j) (omega arith) (omega arith)))
toggled-rank c (p ∷ changes) i (suc k) within left_hand right =
    rw (le-leb p i (left_hand zero (omega arith)))
    (toggled-rank (other c) changes i k (omega arith) (λ j h. left_hand (suc j) (omega arith))
    (λ j h l. right (suc j) (omega arith) (omega arith)))

module _ {changes : List ℕ} {end : ℕ} (up : IsAscending changes end) where
  -- places ascend also over several steps
  pub ascends : (i n : ℕ) → 0 < i → i + suc n < end → get_or changes i 0 < get_or changes (i + suc n) 0
  ascends i zero some h = subst (λ m. get_or changes i 0 < get_or changes m 0) (omega arith)
      (up.steps i some (omega arith))
  ascends i (suc n) some h = grind (arith, ascends i n some (omega arith))

  pub below_later : (i j : ℕ) → 0 < i → i < j → j < end → get_or changes i 0 < get_or changes j 0
  below_later i j some less h =
      subst (λ m. get_or changes i 0 < get_or changes m 0) same (ascends i (j - suc i) some (omega arith))
    where
      same : i + suc (j - suc i) ≡ j
      same = omega arith

  -- each place is at least as large as there are changes before it
  pub at_least : (i : ℕ) → i < end → i ≤ get_or changes i 0 + 1
  at_least zero h = omega arith
  at_least (suc zero) h = omega arith
  at_least (suc (suc i)) h = grind (arith, at_least (suc i) (omega arith))

  pub not_later : (i j : ℕ) → i ≤ j → j < end → get_or changes i 0 ≤ get_or changes j 0
  not_later zero j order h = omega (arith, up.first)
  not_later (suc i) j order h = grind (arith, below_later)

  -- the colour after k places
  pub colour_after_places : (i k : ℕ) → AreChangesUpTo changes end i k
      → toggled Black (take end changes) i ≡ alternate Black k
  colour_after_places i k at =
      toggled-rank Black (take end changes) i k (omega (arith, len, at.within)) left_hand right
    where
      len : length (take end changes) ≡ end
      len = length-take-le end changes up.within

      left_hand : (j : ℕ) → j < k → get_or (take end changes) j 0 ≤ i
      left_hand j h =
          let l = not_later j (k - 1) (omega arith) (omega (arith, at.within)) in
          rw (get_or-take end changes j 0 (omega (arith, at.within))) (omega (arith, at.left_hand))

      right : (j : ℕ) → k ≤ j → j < length (take end changes) → i < get_or (take end changes) j 0
      right j h l =
          let first = at.right (omega (arith, len)) in
          let later = not_later k j h (omega (arith, len)) in
          rw (get_or-take end changes j 0 (omega (arith, len))) (omega arith)

  -- the pel after k places
  pub pel_after : (width i k : ℕ) → i < width → AreChangesUpTo changes end i k
      → pel (pels_of_changes width (take end changes)) i ≡ alternate Black k
  pel_after width i k h at = pel-pels_of_changes width (take end changes) i h ∙ colour_after_places i k at

  -- a row changes at each of its places
  pub changing_at : (width i j : ℕ) → 0 < j → j < end → get_or changes j 0 ≡ i → i < width
      → is_changing (pels_of_changes width (take end changes)) i ≡ true
  changing_at width zero j some h is inside =
      let one : j ≡ 1 = omega (arith, at_least j h, up.first, few) in
      let two = pel_after width zero 2 inside (record {
        some = omega arith;
        within = omega (arith, one);
        left_hand = subst (λ m. get_or changes m 0 ≤ 0) one (omega (arith, is));
        right = λ l. omega (arith, later l);
      }) in
      rw two refl
    where
      few : j < 2
      few = grind (arith, common_steps)

      later : 2 < end → 0 < get_or changes 2 0
      later l = let m = below_later 1 2 (omega arith) (omega arith) l in omega arith
  changing_at width (suc i) j some h is inside =
      let here = pel_after width (suc i) (suc j) inside (record {
        some = omega arith;
        within = omega arith;
        left_hand = rw same (omega (arith, is));
        right = λ l. let next = below_later j (suc j) some (omega arith) l in omega (arith, is);
      }) in
      let before = pel_after width i j (omega arith) (record {
        some = some;
        within = omega arith;
        left_hand = last (eq-or-lt_of_le some);
        right = λ l. omega (arith, is);
      }) in
      rw (here, before, alternate-suc Black j) (other_than (other (alternate Black j)) (alternate Black j) refl)
    where
      same : suc j - 1 ≡ j
      same = omega arith

      last : (1 ≡ j) ⊎ (1 < j) → get_or changes (j - 1) 0 ≤ i
      last (inl one) = subst (λ m. get_or changes (m - 1) 0 ≤ i) one (omega (arith, up.first))
      last (inr more) = let l = below_later (j - 1) j (omega arith) (omega arith) h in omega (arith, is)

  -- and nowhere else
  pub unchanging : (width i k : ℕ) → AreChangesUpTo changes end i k → (k ≡ 1) ⊎ (get_or changes (k - 1) 0 < i)
      → i < width
      → is_changing (pels_of_changes width (take end changes)) i ≡ false
  unchanging width zero k at (inr less) inside = absurd (omega arith)
  unchanging width zero k at (inl one) inside =
      let here : pel (pels_of_changes width (take end changes)) 0 ≡ alternate Black 1 =
      pel_after width zero k inside at ∙ ap (alternate Black) one in
      rw here refl
  unchanging width (suc i) k at from inside =
      let here = pel_after width (suc i) k inside at in
      let before = pel_after width i k (omega arith) (record {
        some = at.some;
        within = at.within;
        left_hand = left_hand from;
        right = λ l. omega (arith, at.right l);
      }) in
      rw (here, before) (same_as (alternate Black k) (alternate Black k) refl)
    where
      left_hand : (k ≡ 1) ⊎ (get_or changes (k - 1) 0 < suc i) → get_or changes (k - 1) 0 ≤ i
      left_hand (inl one) = subst (λ m. get_or changes (m - 1) 0 ≤ i) (sym one) (omega (arith, up.first))
      left_hand (inr less) = omega arith
