-- What a reader of a chain answers.
use Rattle.std.proofs.Common.{◌≡◌, ℕ, zero, suc, ◌+◌, ◌^◌, ◌<◌, ◌≤◌, ◌≢◌, inl, inr, true, false, List, [], ◌∷◌, length}
use Rattle.std.proofs.Common.{Option, Some, None}
use Rattle.std.proofs.Common.{Result, Ok, Err, refl, sym, ap, ◌∙◌, arith}
use Rattle.std.specs.Prelude.{◌==◌, slice_get}
use Rattle.std.proofs.lemmas.Bool.Decides.{nat_tests}
use Rattle.fax_files.specs.declared.FileFault.{FileFault}
use Rattle.fax_files.specs.declared.FileFault.TheVariants.{DirectoryOutside, DirectoryLoop}
use Rattle.fax_files.specs.Directory.{is_directory, next_offset}
use Rattle.fax_files.specs.views.Tiff.{TiffFile, TiffDirectory, directory_of}
use Rattle.fax_files.specs.code.Chain.{offset, cycle_start_of, IsChainPlace}
use Rattle.fax_files.specs.views.Chain.{answer_at, chain_of, ChainState, upcoming_answer}
use Rattle.fax_files.proofs.LoopLemmas.{place_next, led, before_end, the_places}

past : (xs : List ℕ) (i : ℕ) → length xs ≤ i → slice_get xs i ≡ None
past [] i h = refl
past (x ∷ xs) zero h = absurd (omega arith)
past (x ∷ xs) (suc i) h = past xs i (omega arith)

module _ (tiff : TiffFile) (next_at yielded : ℕ) (sound : IsChainPlace tiff next_at yielded) where
  abbrev offsets : List ℕ
  offsets = (chain_of tiff).offsets

  abbrev end : Option FileFault
  end = (chain_of tiff).end

  abbrev Known : ℕ → Type 0
  Known i = ((offset tiff i == 0) ≡ false) × (is_directory tiff.head.endian tiff.file (offset tiff i) ≡ true)

  known : (i : ℕ) → i < length offsets → Known i
  known i h = let p = led tiff i (offset tiff (i + 1)) (before_end tiff i h) in (p.0, p.1)

  known_alike : (i j : ℕ) → offset tiff i ≡ offset tiff j → j < length offsets → Known i
  known_alike i j same h =
      let p = known j h in (
        ap (λ (q : ℕ). q == 0) same ∙ p.0,
        ap (is_directory tiff.head.endian tiff.file) same
            ∙ p.1,
      )

  -- at the end, where it is known not to be before it
  at_end : (yielded < length offsets → ⊥) → (slice_get offsets yielded ≡ None) × (yielded ≡ length offsets)
  at_end not_before = grind (arith, past, sound.within)

  abbrev state : ChainState
  state = record { tiff = tiff; yielded = yielded }

  abbrev answer : Result (Option TiffDirectory) FileFault
  answer = upcoming_answer state

  ends_with : (some : Option FileFault) → slice_get offsets yielded ≡ None → end ≡ some
      → answer ≡ answer_at tiff None some
  ends_with some none e = rw (none, e) refl

  pub none_left : next_at ≡ 0 → Ok None ≡ answer
  none_left zero_upcoming =
      let zero_place : (offset tiff yielded == 0) ≡ true = rw (← sound.upcoming_is, zero_upcoming) refl in
      let e = at_end (λ before. cc ((known yielded before).0, zero_place)) in
      let last : (offset tiff (length offsets) == 0) ≡ true = rw e.1 at zero_place in
      elim (the_places tiff).ends [
        | inl p ↦ sym (ends_with None e.0 p.1)
        | inr (inl p) ↦ absurd (cc (p.0, last))
        | inr (inr p) ↦ absurd (cc ((known_alike (length offsets) p.0 p.2 p.1).0, last))
      ]

  pub turned : cycle_start_of tiff ≡ Some yielded → Err DirectoryLoop ≡ answer
  turned here = grind (arith, past)

  pub outside : next_at ≢ 0 → is_directory tiff.head.endian tiff.file next_at ≡ false → Err DirectoryOutside ≡ answer
  outside some none_there =
      let gone : is_directory tiff.head.endian tiff.file (offset tiff yielded)
      ≡ false = rw sound.upcoming_is at none_there in
      let e = at_end (λ before. cc ((known yielded before).1, gone)) in
      let last : is_directory tiff.head.endian tiff.file (offset tiff (length offsets)) ≡ false = rw e.1 at gone in
      elim (the_places tiff).ends [
        | inl p ↦
            let none : offset tiff (length offsets) ≡ 0 = grind (arith, nat_tests, p.0) in
            absurd (some (sound.upcoming_is ∙ ap (offset tiff) e.1 ∙ none))
        | inr (inl p) ↦ sym (ends_with (Some DirectoryOutside) e.0 p.2)
        | inr (inr p) ↦ absurd (cc ((known_alike (length offsets) p.0 p.2 p.1).1, last))
      ]

  pub found : (directory : TiffDirectory) → directory ≡ directory_of tiff next_at → next_at ≢ 0
      → is_directory tiff.head.endian tiff.file next_at ≡ true → cycle_start_of tiff ≢ Some yielded
      → Ok (Some directory) ≡ answer
  found directory is_it some there no_turn =
      let places = the_places tiff in let within = sound.within in grind (arith, places, within)

  -- what an answer says of the place
  pub answered : (directory : TiffDirectory) → Ok (Some directory) ≡ answer
      → (yielded < length offsets) × (directory ≡ directory_of tiff (offset tiff yielded))
  answered directory e = let places = the_places tiff in grind (arith, places, past)

  module _ (directory : TiffDirectory) (is : Ok (Some directory) ≡ upcoming_answer state) where
    pub one_more_fits : yielded + 1 < 2 ^ 32
    one_more_fits = let count : length offsets < 2 ^ 32 = sound.few in omega (arith, (answered directory is).0)

    pub one_more : (next : ℕ) → next ≡ next_offset directory.endian directory.file directory.offset
        → IsChainPlace tiff next (yielded + 1)
    one_more next next_is =
        let p = answered directory is in
        record {
          upcoming_is = next_is ∙ ap (λ (d : TiffDirectory). next_offset d.endian d.file d.offset) p.1
              ∙ sym (place_next tiff yielded);
          within = omega (arith, p.0);
          few = sound.few;
        }
