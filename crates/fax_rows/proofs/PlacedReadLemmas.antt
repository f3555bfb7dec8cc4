-- Places of change that are put one after the other while a row is read.
use Rattle.std.proofs.lemmas.Grind.{common_steps}
use Rattle.std.proofs.Common.{◌≡◌, ℕ, ◌+◌, ◌-◌, ◌<◌, ◌≤◌, ◌≢◌, List, length, take, get_or}
use Rattle.std.proofs.Common.{sym, ◌∙◌, subst, arith, inl, inr}
use Rattle.std.specs.Prelude.{◌⊎◌}
use Rattle.std.proofs.Math.ListN.{set}
use Rattle.std.proofs.Math.Nat.{eq-or-lt_of_le}
use Rattle.std.proofs.lemmas.List.{ext_get_or}
use Rattle.fax_bits.specs.declared.Colour.TheVariants.{White, Black}
use Rattle.fax_rows.specs.Rows.{other}
use Rattle.fax_rows.specs.code.Put.{AreChangesPut}
use Rattle.fax_rows.specs.code.ChangeLists.{toggled, pels_of_changes, IsAscending, IsToggledFrom, TogglesAt}
use Rattle.fax_rows.proofs.TurnLemmas.{length-pels_of_changes, pel-pels_of_changes, toggled-push_left}
use Rattle.fax_rows.proofs.TurnLemmas.{toggled-push_right, at_least}
use Rattle.fax_rows.proofs.TurnLemmas.{below_later}

-- a place that is put
pub turned_on : (changes : List ℕ) (end column : ℕ) → end < length changes
    → IsToggledFrom (take end changes) (take (end + 1) (set changes end column)) column
turned_on changes end column room = grind (arith, common_steps, toggled-push_left, toggled-push_right)

-- the last place that is taken away again
pub turned_back : (changes : List ℕ) (end column : ℕ) → 0 < end → end ≤ length changes → get_or changes (end - 1) 0
    ≡ column
    → IsToggledFrom (take end changes) (take (end - 1) changes) column
turned_back changes end column some within is = grind (arith, common_steps, toggled-push_left, toggled-push_right)

-- rows whose pels are the same
same_pels_by : (width : ℕ) (some others : List ℕ) → ((i : ℕ) → i < width → toggled Black some i
    ≡ toggled Black others i)
    → pels_of_changes width some ≡ pels_of_changes width others
same_pels_by width some others each =
    ext_get_or White (pels_of_changes width some) (pels_of_changes width others)
    (length-pels_of_changes width some ∙ sym (length-pels_of_changes width others))
    (λ k h. let inside : k < width = omega (arith, length-pels_of_changes width some) in
    pel-pels_of_changes width some k inside ∙ each k inside ∙ sym (pel-pels_of_changes width others k inside))

-- a change at the width is none of the row
pub without_last : (width : ℕ) (changes : List ℕ) (end : ℕ) → 0 < end → end ≤ length changes
    → get_or changes (end - 1) 0 ≡ width
    → pels_of_changes width (take (end - 1) changes) ≡ pels_of_changes width (take end changes)
without_last width changes end some within is =
    same_pels_by width (take (end - 1) changes) (take end changes)
    (λ i h. (turned_back changes end width some within is).left_hand i h)

-- there is room for one place more
pub places_within : (changes : List ℕ) (end total : ℕ) → IsAscending changes end → get_or changes (end - 1) 0 ≤ total
    → end ≤ total + 2
places_within changes end total up last = omega (arith, up.started, at_least up (end - 1) (omega (arith, up.started)))

-- there is room for two places more
pub more_room : {width : ℕ} {changes : List ℕ} {end total : ℕ} → AreChangesPut width changes end total
    → end + 1 < length changes
more_room put = omega (arith, put.room, put.within, places_within _ _ _ put.ascending put.last)

-- a place more is put
pub put_on : {width : ℕ} {old new : List ℕ} {end next total column : ℕ} → AreChangesPut width old end total
    → TogglesAt old new end next column
    → column ≤ width → AreChangesPut width new next column
put_on put turns within = grind (arith, common_steps)

-- all places but the last are below it
pub below_last : (changes : List ℕ) (end width : ℕ) → IsAscending changes end → get_or changes (end - 1) 0 ≤ width
    → (i : ℕ) → 0 < i → i < end - 1 → get_or changes i 0 < width
below_last changes end width up last i some h =
    let less = below_later up i (end - 1) some h (omega arith) in omega arith

-- a last place that is not the width is below it
pub below_width : (changes : List ℕ) (end width : ℕ) → IsAscending changes end → get_or changes (end - 1) 0 ≤ width
    → (end ≤ 1) ⊎ (get_or changes (end - 1) 0 ≢ width) → (i : ℕ) → 0 < i → i < end → get_or changes i 0 < width
below_width changes end width up last (inl none) i some h = absurd (omega arith)
below_width changes end width up last (inr other) i some h =
    elim (eq-or-lt_of_le at_most) [
      | inl same ↦ subst (λ m. get_or changes m 0 < width) (sym same) (omega arith)
      | inr less ↦ below_last changes end width up last i some less
    ]
  where
    at_most : i ≤ end - 1
    at_most = omega arith

-- there are no more changes than pels
pub ends_within : (changes : List ℕ) (end width : ℕ) → IsAscending changes end
    → ((i : ℕ) → 0 < i → i < end → get_or changes i 0 < width) → end ≤ width + 1
ends_within changes end width up below = grind (arith, at_least)
