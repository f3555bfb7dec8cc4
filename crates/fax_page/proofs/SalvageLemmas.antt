-- The next EOL after a row that is lost.
use Rattle.fax_bits.specs.Reading.{read, failed}
use Rattle.fax_page.specs.code.Salvage.{IsSoughtFrom}
use Rattle.fax_page.specs.code.Starts.{BeginsBelowEleven}
use Rattle.fax_page.proofs.StartLaws.{IsStart}
use Rattle.std.proofs.Common.{◌≡◌, ℕ, zero, suc, ◌+◌, ◌-◌, ◌<◌, ◌≤◌, List, [], ◌∷◌, ◌++◌, length, drop, replicate}
use Rattle.std.proofs.Common.{Bool, true, false, Option, Some, None, refl, ap, sym, ◌∙◌, arith, inl, inr}
use Rattle.std.proofs.lemmas.List.{length-drop, drop-drop}
use Rattle.std.specs.Prelude.{nat_lt, nat_le, if◌then◌else◌, option_map, ◌≢◌}
use Rattle.std.proofs.lemmas.Bool.{cases_lt}
use Rattle.std.proofs.lemmas.Bool.Decides.{nat_tests}
use Rattle.fax_bits.specs.Bits.{IsAllZeros, StartsWith}
use Rattle.fax_bits.specs.views.Source.{Source, HasElevenZeros, HasLeadingZeros, KeepsEnd, SkipsShortZeros}
use Rattle.fax_page.specs.Lines.{Coding, Mh, Mr, Mmr, Dimension, OneDimensional, StripFault}
use Rattle.fax_page.specs.Strip.{eol_bits}
use Rattle.fax_page.specs.Salvage.{IsTwoDimensionalNext, after_eol, resync_point, resync_from}
use Rattle.fax_page.specs.declared.StripFault.TheVariants.{DataEnds, MissingEol}
use Rattle.fax_page.specs.code.Salvage.{IsAmong, IsFirstEol, IsNextEol, IsPassedBy}
use Rattle.fax_page.proofs.StartedLemmas.{one_started, one_start}
use Rattle.fax_page.proofs.RestLemmas.{start_among}
use Rattle.fax_page.specs.Lines.{NextOne, next_one, start_by}
use Rattle.fax_page.proofs.StartLaws.{eol_at, eol_is_not_below, below_is_not_zeros}

-- eleven zeros or more are not fewer
pub not_below : (b : List Bool) (zeros : ℕ) → HasLeadingZeros b zeros → nat_lt zeros 11 ≡ false → BeginsBelowEleven b
    → ⊥
not_below b zeros ahead enough below =
    eol_is_not_below b ahead.0 (eol_at b ahead.0 zeros (grind (arith, nat_tests)) ahead.1) below

pub not_below_zeros : (b : List Bool) → IsAllZeros b → BeginsBelowEleven b → ⊥
not_below_zeros b all below = below_is_not_zeros b below all

-- a row is coded in one dimension or in two
pub not_two : (coding : Coding) (i : ℕ) (b codes : List Bool) → IsStart coding i b (read OneDimensional codes)
    → IsTwoDimensionalNext coding i b → ⊥
not_two coding i b codes one two = let same = one_started coding i b _ _ _ _ one two.1 in cc

pub not_started : (coding : Coding) (i : ℕ) (b : List Bool) (fault : StripFault) → IsStart coding i b (failed fault)
    → IsTwoDimensionalNext coding i b → ⊥
not_started coding i b fault stop two = let same = one_start coding i b _ _ stop two.1 in cc

-- zeros alone have no EOL among them
pub no_eol : (n zeros : ℕ) → after_eol n (replicate zeros false) ≡ None
no_eol n zero = refl
no_eol n (suc zeros) = no_eol (suc n) zeros

-- the first 1 after zeros ends an EOL, or none has started
pub at_one : (n zeros : ℕ) (b : List Bool)
    → after_eol n (replicate zeros false ++ true ∷ b) ≡ (if nat_le 11 (n + zeros) then (Some b) else (after_eol 0 b))
at_one n zero b = grind arith
at_one n (suc zeros) b = grind (arith, at_one (suc n) zeros b)

-- after some of the zeros
pub drop_zeros : (n zeros : ℕ) (b : List Bool) → n ≤ zeros
    → drop n (replicate zeros false ++ b) ≡ replicate (zeros - n) false ++ b
drop_zeros zero zeros b few =
    let all : zeros ≡ zeros - 0 = omega arith in
    ap (λ n. replicate n false ++ b) all
drop_zeros (suc n) zero b few = absurd (omega arith)
drop_zeros (suc n) (suc zeros) b few = grind (arith, drop_zeros n zeros b)

-- zeros, a 1, and what is left after them
zeros_count : (zeros : ℕ) (b after : List Bool) → b ≡ replicate zeros false ++ true ∷ after
    → (zeros + 1 ≤ length b) × (drop (zeros + 1) b ≡ after)
zeros_count zero b after is = grind arith
zeros_count (suc zeros) b after is = grind (arith, zeros_count zeros (replicate zeros false ++ true ∷ after) after refl)

-- how many zeros were counted does not matter where fewer than eleven stand together
same_search : (y z : ℕ) (b : List Bool) → y ≤ z → (StartsWith b (replicate (11 - z) false) → ⊥)
    → after_eol z b ≡ after_eol y b
same_search y z [] more few = refl
same_search y z (true ∷ b) more few = elim (cases_lt z 11) [
  | inl below ↦ grind (arith, nat_tests)
  | inr enough ↦
      let none : 11 - z ≡ 0 = omega arith in
      absurd (few (true ∷ b, ap (λ n. replicate n false ++ true ∷ b) (sym none)))
]
same_search y z (false ∷ b) more few = elim (cases_lt z 11) [
  | inl below ↦
      let next : 11 - z ≡ suc (11 - suc z) = omega arith in
      same_search (suc y) (suc z) b (omega arith) (λ starts. few
      (starts.0, ap (λ b. false ∷ b) starts.1 ∙ ap (λ n. replicate n false ++ starts.0) (sym next)))
  | inr enough ↦
      let none : 11 - z ≡ 0 = omega arith in
      absurd (few (false ∷ b, ap (λ n. replicate n false ++ false ∷ b) (sym none)))
]

-- no EOL ends at bits that begin no eleven zeros
short_zeros : (count : ℕ) (b : List Bool) → count ≤ length b
    → ((i : ℕ) → i < count → HasElevenZeros (drop i b) → ⊥)
    → after_eol 0 b ≡ after_eol 0 (drop count b)
short_zeros zero b within none = refl
short_zeros (suc count) [] within none = absurd (omega arith)
short_zeros (suc count) (true ∷ b) within none =
    short_zeros count b (omega arith) (λ i small. none (suc i) (omega arith))
short_zeros (suc count) (false ∷ b) within none =
    same_search 0 1 b (omega arith) (λ starts. none 0 (omega arith) (starts.0, ap (λ b. false ∷ b) starts.1))
    ∙ short_zeros count b (omega arith) (λ i small. none (suc i) (omega arith))

pub skips_on : (source at new : Source) → IsPassedBy source at → SkipsShortZeros at new → IsPassedBy source new
skips_on source at new passed skips =
    let left : at.remaining ≡ drop passed.before source.remaining = ap (λ (s : Source). s.remaining) passed.at_is in
    let place : at.place ≡ source.place + passed.before = ap (λ (s : Source). s.place) passed.at_is in
    let count : length at.remaining ≡ length source.remaining - passed.before =
    ap length left ∙ length-drop passed.before source.remaining in
    record {
      before = passed.before + skips.count;
      within = omega (arith, count, passed.within, skips.within);
      at_is = grind (arith, skips.new_is, left, place, drop-drop);
      no_eol =
          passed.no_eol ∙ short_zeros skips.count at.remaining skips.within skips.none
          ∙ ap (after_eol 0) (sym (ap (λ (s : Source). s.remaining) skips.new_is));
    }

module _ (source at : Source) (zeros : ℕ) (passed : IsPassedBy source at) (ahead : HasLeadingZeros at.remaining zeros)
  where
    abbrev at_place : at.place ≡ source.place + passed.before
    at_place = ap (λ (s : Source). s.place) passed.at_is

    abbrev at_left : at.remaining ≡ drop passed.before source.remaining
    at_left = ap (λ (s : Source). s.remaining) passed.at_is

    counted : passed.before + (zeros + 1) ≤ length source.remaining
    counted =
        let remaining : length at.remaining ≡ length source.remaining - passed.before =
        ap length at_left ∙ length-drop passed.before source.remaining in
        omega (arith, remaining, (zeros_count zeros at.remaining ahead.0 ahead.1).0, passed.within)

    here : after_eol 0 source.remaining ≡ (if nat_le 11 zeros then (Some ahead.0) else (after_eol 0 ahead.0))
    here =
        let sum : 0 + zeros ≡ zeros = omega arith in
        passed.no_eol ∙ ap (after_eol 0) ahead.1 ∙ at_one 0 zeros ahead.0
        ∙ ap (λ n. if nat_le 11 n then (Some ahead.0) else (after_eol 0 ahead.0)) sum

    -- the EOL is found
    pub eol_found : (new : Source) (place : ℕ) → 11 ≤ zeros
        → new ≡ record { remaining = drop (zeros + 1) at.remaining; place = at.place + (zeros + 1) } → place ≡ new.place
        → (rest : List Bool) × (after_eol 0 source.remaining ≡ Some rest) × IsAmong source (place - 12) (eol_bits
        ++ rest)
    eol_found new place enough new_is place_is =
        let found : after_eol 0 source.remaining ≡ Some ahead.0 = here ∙ (grind (arith, nat_tests)) in
        let there : new.place ≡ at.place + (zeros + 1) = ap (λ (s : Source). s.place) new_is in
        let eleven : zeros - (zeros - 11) ≡ 11 = omega (arith, enough) in (
          ahead.0,
          found,
          record {
            before = passed.before + (zeros - 11);
            place_is = omega (arith, there, place_is, at_place, enough);
            within = omega (arith, counted, enough);
            bits_are =
                sym (drop-drop (zeros - 11) passed.before source.remaining)
                ∙ ap (drop (zeros - 11)) (sym at_left ∙ ahead.1)
                ∙ drop_zeros (zeros - 11) zeros (true ∷ ahead.0) (omega arith)
                ∙ ap (λ n. replicate n false ++ true ∷ ahead.0) eleven;
          },
        )

    -- no EOL yet
    pub passed_on : (new : Source) → zeros < 11
        → new ≡ record { remaining = drop (zeros + 1) at.remaining; place = at.place + (zeros + 1) }
        → IsPassedBy source new
    passed_on new few new_is =
        let rest : drop (zeros + 1) at.remaining ≡ ahead.0 = (zeros_count zeros at.remaining ahead.0 ahead.1).1 in
        let none : after_eol 0 source.remaining ≡ after_eol 0 ahead.0 = here ∙ (grind (arith, nat_tests)) in
        record {
          before = passed.before + (zeros + 1);
          within = counted;
          at_is = grind (arith, new_is, at_left, at_place, drop-drop);
          no_eol = none ∙ ap (after_eol 0) (sym rest ∙ sym (ap (λ (s : Source). s.remaining) new_is));
        }

-- no EOL is left
pub none_left : (source at : Source) → IsPassedBy source at → IsAllZeros at.remaining → after_eol 0 source.remaining
    ≡ None
none_left source at passed all = passed.no_eol ∙ ap (after_eol 0) all.1 ∙ no_eol 0 all.0

-- where the next row begins, in MH and MR
upcoming_is : (coding : Coding) (b : List Bool) → coding ≢ Mmr
    → resync_point coding b ≡ option_map (λ rest. eol_bits ++ rest) (after_eol 0 b)
upcoming_is Mh b other = refl
upcoming_is Mr b other = refl
upcoming_is Mmr b other = absurd (other refl)

-- a place after so many bits of a source is one of the source
module _ (coding : Coding) (i : ℕ) (start from : Source) (n : ℕ) (other : coding ≢ Mmr)
    (within : n ≤ length start.remaining) (left_is : drop n start.remaining ≡ from.remaining) (place_is : from.place
    ≡ start.place + n)
    (sought : IsSoughtFrom coding i start.remaining from.remaining) where
  among : (place : ℕ) (b : List Bool) → IsAmong from place b → IsAmong start place b
  among place b there =
      let count : length from.remaining ≡ length start.remaining - n = ap length (sym left_is)
      ∙ length-drop n start.remaining in
      record {
        before = n + there.before;
        place_is = omega (arith, there.place_is, place_is);
        within = omega (arith, there.within, count, within);
        bits_are =
            sym (drop-drop there.before n start.remaining)
            ∙ ap (drop there.before) left_is
            ∙ there.bits_are;
      }

  pub found_from : (found : Option ℕ) → IsFirstEol from found → IsNextEol coding i start found
  found_from None none = (
    from.remaining,
    sought,
    upcoming_is coding from.remaining other
        ∙ ap (option_map (λ rest. eol_bits ++ rest)) none,
  )
  found_from (Some place) (rest, some, there) = (
    from.remaining,
    sought,
    (
      eol_bits ++ rest,
      upcoming_is coding from.remaining other
          ∙ ap (option_map (λ rest. eol_bits ++ rest)) some,
      among place (eol_bits ++ rest) there,
    ),
  )

-- the EOL after a lost row's own EOL and tag bit
pub after_own : (coding : Coding) (i : ℕ) (start from : Source) (dimension : Dimension) (found : Option ℕ)
    → coding ≢ Mmr → IsStart coding i start.remaining (read dimension from.remaining) → KeepsEnd start from
    → IsFirstEol from found → IsNextEol coding i start found
after_own coding i start from dimension found other origin same_end first =
    let n = start_among coding i start.remaining dimension from.remaining origin in
    let count : length from.remaining ≡ length start.remaining - n.0 =
    ap length (sym n.2) ∙ length-drop n.0 start.remaining in
    found_from coding i start from n.0 other n.1 n.2 (omega (arith, count, same_end, n.1))
    (ap (resync_from start.remaining) origin) found first

-- the EOL after the place of a lost row that has none
pub after_place : (coding : Coding) (i : ℕ) (start : Source) (found : Option ℕ) → coding ≢ Mmr
    → IsStart coding i start.remaining (failed MissingEol) → IsFirstEol start found → IsNextEol coding i start found
after_place coding i start found other missing first =
    found_from coding i start start 0 other (omega arith) refl (omega arith)
    (ap (resync_from start.remaining) missing) found first

-- the data end before a row's codes, and nothing is left
pub after_end : (coding : Coding) (i : ℕ) (start : Source) (fault : StripFault) → fault ≢ MissingEol
    → IsStart coding i start.remaining (failed fault) → IsNextEol coding i start None
after_end coding i start fault other stop = ([], sought, nothing coding)
  where
    nothing : (coding : Coding) → resync_point coding [] ≡ None
    nothing Mh = refl
    nothing Mr = refl
    nothing Mmr = refl

    sought : IsSoughtFrom coding i start.remaining []
    sought = ap (resync_from start.remaining) (by coding i (next_one 0 start.remaining) stop)
      where
        by : (coding : Coding) (i : ℕ) (one : NextOne) → start_by coding i start.remaining one ≡ failed fault
            → start_by coding i start.remaining one ≡ failed DataEnds
        by coding i one is = grind arith

-- no row of MMR has an EOL
pub none_in_mmr : (coding : Coding) (i : ℕ) (start : Source) → coding ≡ Mmr → IsNextEol coding i start None
none_in_mmr coding i start mmr = rw mmr (start.remaining, refl, refl)
