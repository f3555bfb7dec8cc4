-- What a row of places of change shows: its pels, its changing elements, and the next of them.
use Rattle.std.proofs.lemmas.Grind.{common_steps}
use Rattle.std.proofs.Common.{◌≡◌, ℕ, zero, suc, ◌+◌, ◌-◌, ◌<◌, ◌≤◌, List, [], ◌∷◌, length, take, drop, get_or}
use Rattle.std.proofs.Common.{replicate, true}
use Rattle.std.proofs.Common.{false, refl, ap, sym, ◌∙◌, subst, arith, inl, inr, drop-cons}
use Rattle.std.specs.Prelude.{◌⊎◌, Option, Some, None}
use Rattle.std.specs.List.{filter, range_with_len}
use Rattle.std.proofs.lemmas.Bool.{and_from, cases_lt, le-leb}
use Rattle.std.proofs.Math.Nat.{eq-or-lt_of_le}
use Rattle.std.proofs.Math.ListN.{set}
use Rattle.std.proofs.lemmas.List.{get_or-take, length-take-le, ext_get_or, get_or-replicate, length-replicate}
use Rattle.fax_bits.specs.declared.Colour.{Colour}
use Rattle.fax_bits.specs.declared.Colour.TheVariants.{White, Black}
use Rattle.fax_rows.specs.Rows.{pel, is_changing, is_right_of, next_change}
use Rattle.fax_rows.specs.code.ChangeLists.{toggled, pels_of_changes, alternate, AreChanges, AreChangesUpTo, IsFrom}
use Rattle.fax_rows.proofs.ChangeLemmas.{still_left}
use Rattle.fax_rows.proofs.ChangePlaceLemmas.{next_change_at}
use Rattle.fax_rows.proofs.TurnLemmas.{length-pels_of_changes, pel-pels_of_changes, at_least, below_later, pel_after}
use Rattle.fax_rows.proofs.TurnLemmas.{changing_at}
use Rattle.fax_rows.proofs.TurnLemmas.{unchanging}

-- after the first place alone all is white
pub toggled-first : (i : ℕ) → toggled Black (0 ∷ []) i ≡ White
unfolding toggled
toggled-first i = rw (le-leb 0 i (omega arith)) refl

pub take-first : (changes : List ℕ) → 0 < length changes → get_or changes 0 0 ≡ 0 → take 1 changes ≡ 0 ∷ []
take-first changes some first = grind arith

pub white_row : (width : ℕ) → pels_of_changes width (0 ∷ []) ≡ replicate width White
white_row width =
    ext_get_or White (pels_of_changes width (0 ∷ [])) (replicate width White)
    (length-pels_of_changes width (0 ∷ []) ∙ sym (length-replicate width White))
    (λ k h. pel-pels_of_changes width (0 ∷ []) k (omega (arith, length-pels_of_changes width (0 ∷ [])))
    ∙ toggled-first k
    ∙ sym (get_or-replicate width k White White (omega (arith, length-pels_of_changes width (0 ∷ [])))))

-- a first place alone is a white row
pub white_by : (width : ℕ) (changes : List ℕ) → 0 < length changes
    → pels_of_changes width (take 1 (set changes 0 0)) ≡ replicate width White
white_by width [] some = absurd (omega arith)
white_by width (p ∷ changes) some = white_row width

-- the next changing element, as `next_change` answers it
pub record IsNext (row : List Colour) (from : Option ℕ) (r : ℕ) : Type 0 where
  pub place : r ≡ next_change row from
  pub within : r ≤ length row
  pub right : r < length row → is_right_of from r ≡ true

module _ {changes : List ℕ} {end width : ℕ} (all : AreChanges changes end width) where
  -- after the changes stands the width
  pub at_end : get_or changes end 0 ≡ width
  at_end = subst (λ m. get_or changes m 0 ≡ width) same (all.after 0 (omega arith))
    where
      same : end + 0 ≡ end
      same = omega arith

  -- there are no more changes than pels
  pub end_within : end ≤ width + 1
  end_within =
      elim (eq-or-lt_of_le all.ascending.started) [
        | inl one ↦ omega arith
        | inr more ↦
            omega (
              arith,
              at_least all.ascending (end - 1) (omega arith),
              all.below (end - 1) (omega arith)
                  (omega arith),
            )
      ]

  pub place_or_width : (k : ℕ) → 0 < k → k ≤ end → ((k < end) × (get_or changes k 0 < width))
      ⊎ ((k ≡ end) × (get_or changes k 0 ≡ width))
  place_or_width k some within = grind (arith, common_steps, at_end)

  place_within : (k : ℕ) → 0 < k → k ≤ end → get_or changes k 0 ≤ width
  place_within k some within = grind (arith, common_steps, place_or_width)

  -- the place that is read for the next change right of `from`
  pub at_from : (from : Option ℕ) (k : ℕ) → IsFrom changes end from k → (0 < k) × (k ≤ end)
  at_from from k at = grind arith

  none_between : (from : Option ℕ) (k : ℕ) → IsFrom changes end from k → (i : ℕ) → i < get_or changes k 0 → i < width
      → is_right_of from i ≡ true → is_changing (pels_of_changes width (take end changes)) i ≡ false
  none_between None k at i before inside right =
      unchanging all.ascending width i k
      (record {
        some = omega arith;
        within = omega (arith, all.ascending.started);
        left_hand = subst (λ m. get_or changes (m - 1) 0 ≤ i) (sym at) (omega (arith, all.ascending.first));
        right = λ h. before;
      })
      (inl at) inside
  none_between (Some a) k at i before inside right = grind (arith, unchanging)

  right_of : (from : Option ℕ) (k : ℕ) → IsFrom changes end from k → k < end
      → is_right_of from (get_or changes k 0) ≡ true
  right_of from k at h = grind arith

  pub next_here : (from : Option ℕ) (k : ℕ) → IsFrom changes end from k
      → IsNext (pels_of_changes width (take end changes)) from (get_or changes k 0)
  next_here from k at = record {
    place = next_change_at (pels_of_changes width (take end changes)) from (get_or changes k 0) (omega (
      arith,
      len,
      within,
    ))
        (λ i h. still_left (is_right_of from i) (is_changing (pels_of_changes width (take end changes)) i)
        (none_between from k at i h (omega (arith, within))))
        (λ h. and_from (is_right_of from (get_or changes k 0)) (is_changing (pels_of_changes width (take end changes))
        (get_or changes k 0)) (right h)
        (changing_at all.ascending width (get_or changes k 0) k bounds.0 (less h) refl (omega (arith, len))));
    within = omega (arith, len, within);
    right = right;
  }
    where
      bounds : (0 < k) × (k ≤ end)
      bounds = at_from from k at

      len : length (pels_of_changes width (take end changes)) ≡ width
      len = length-pels_of_changes width (take end changes)

      within : get_or changes k 0 ≤ width
      within = place_within k bounds.0 bounds.1

      less : get_or changes k 0 < length (pels_of_changes width (take end changes)) → k < end
      less h = grind (arith, len)

      right : get_or changes k 0 < length (pels_of_changes width (take end changes))
          → is_right_of from (get_or changes k 0) ≡ true
      right h = right_of from k at (less h)

  -- the changing elements among n places from a on are those after k places
  abbrev AreChangesFrom : ℕ → ℕ → ℕ → Type 0
  AreChangesFrom a n k =
      0 < k → k ≤ end → (k < end → a ≤ get_or changes k 0) → (k ≡ 1) ⊎ (get_or changes (k - 1) 0 < a)
      → filter (is_changing (pels_of_changes width (take end changes))) (range_with_len a n) ≡ drop k (take end changes)

  -- no change stands at a
  goes_on : (a n k : ℕ) → AreChangesFrom (a + 1) n k → a < width → (k < end → a < get_or changes k 0)
      → AreChangesFrom a (suc n) k
  goes_on a n k more inside before some within next last = grind (arith, unchanging)

  -- a change stands there
  stops : (a n k : ℕ) → AreChangesFrom (a + 1) n (suc k) → a < width → k < end → get_or changes k 0 ≡ a
      → AreChangesFrom a (suc n) k
  stops a n k more inside short is some within next last =
      let in_front : k < length (take end changes) = omega (arith, length-take-le end changes all.ascending.within) in
      rw (changing_at all.ascending width a k some short is inside)
      (ap (λ xs. a ∷ xs) (more (omega arith) (omega arith) after (inr left_of_a))
      ∙ ap (λ x. x ∷ drop (suc k) (take end changes)) (sym (get_or-take end changes k 0 short ∙ is))
      ∙ sym (drop-cons (take end changes) k 0 in_front))
    where
      after : suc k < end → a + 1 ≤ get_or changes (suc k) 0
      after h = let l = below_later all.ascending k (suc k) some (omega arith) h in omega arith

      same : k ≡ suc k - 1
      same = omega arith

      left_of_a : get_or changes (suc k - 1) 0 < a + 1
      left_of_a = subst (λ m. get_or changes m 0 < a + 1) same (omega arith)

  filter_from : (a n k : ℕ) → a + n ≡ width → AreChangesFrom a n k
  filter_from a zero k sum some within next last = grind (arith, common_steps)
  filter_from a (suc n) k sum some within next last =
      elim (cases_lt k end) [
        | inr more ↦ goes_on a n k (filter_from (a + 1) n k (omega arith)) (omega arith) (λ h. absurd (omega arith))
            some within next last
        | inl short ↦
            elim (eq-or-lt_of_le (next short)) [
              | inl same ↦ stops a n k (filter_from (a + 1) n (suc k) (omega arith)) (omega arith) short (sym same) some
                  within next last
              | inr before ↦ goes_on a n k (filter_from (a + 1) n k (omega arith)) (omega arith) (λ h. before) some
                  within next last
            ]
      ]

  -- the changing elements are the places after the first
  pub changes_are : {row : List Colour} → pels_of_changes width (take end changes) ≡ row
      → take (end - 1) (drop 1 changes) ≡ filter (is_changing row) (range_with_len 0 (length row))
  changes_are is = grind (arith, common_steps, filter_from, length-pels_of_changes)

  -- the width is that of the row
  pub width_is : {row : List Colour} → pels_of_changes width (take end changes) ≡ row → width ≡ length row
  width_is is = subst (λ r. width ≡ length r) is (sym (length-pels_of_changes width (take end changes)))

  -- a row without a change is white
  pub all_white : {row : List Colour} → pels_of_changes width (take end changes) ≡ row → end ≡ 1
      → row ≡ replicate (length row) White
  all_white is alone = grind (arith, common_steps, white_row)

  -- the colour of the pel at a place, by how many places it lies after
  pub pel_here : {row : List Colour} → pels_of_changes width (take end changes) ≡ row → (i k : ℕ) → i < length row
      → AreChangesUpTo changes end i k
      → pel row i ≡ alternate Black k
  pel_here is i k inside at = grind (arith, pel_after, width_is)
