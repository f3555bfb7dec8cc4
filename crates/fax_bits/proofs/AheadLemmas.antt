-- Bits that are loaded, and codes that are read from them.
use Rattle.std.proofs.Common.{Bool, true, false, replicate, ◌≡◌, ℕ, ◌+◌, ◌*◌, ◌≤◌, ◌<◌, List, [], ◌∷◌, ◌++◌, length}
use Rattle.std.proofs.Common.{take, drop, refl, ap}
use Rattle.std.proofs.Common.{sym, ◌∙◌, arith, append_assoc, length-append, ◌⊎◌}
use Rattle.std.proofs.lemmas.Grind.{common_steps}
use Rattle.std.specs.Prelude.{pos}
use Rattle.std.proofs.Math.Seq.{drop-append-add}
use Rattle.std.proofs.lemmas.List.{take-append-drop, take-take, take-replicate, length-replicate}
use Rattle.fax_bits.specs.declared.FillOrder.{FillOrder}
use Rattle.fax_bits.specs.declared.window.Window.{Window}
use Rattle.fax_bits.specs.declared.mode_codes.ModeCode.TheVariants.{Vertical}
use Rattle.fax_bits.specs.Bits.{bits, code_bits, bits_number}
use Rattle.fax_bits.specs.views.Source.{HasLeadingZeros, Source, source_of, KeepsEnd}
use Rattle.fax_bits.specs.Tables.{modes}
use Rattle.fax_bits.specs.code.BitsAhead.{bits_ahead, IsAhead, bit_offset}
use Rattle.fax_bits.specs.code.LookUp.{IsBegun, IsCode, IsLookedUp}
use Rattle.fax_bits.proofs.SourceLemmas.{length-remaining}
use Rattle.fax_bits.proofs.CodeBitsLemmas.{length-code_bits}
use Rattle.fax_bits.proofs.TableLemmas.{listed, left_after}
use Rattle.fax_bits.proofs.PeekLemmas.{padded}
use Rattle.fax_bits.proofs.ReadLemmas.{peeked_bits}
use Rattle.fax_bits.proofs.WindowLemmas.{length-first_bits}

-- as many bits are loaded as are looked at, or all that are left
pub enough : (n : ℕ) (bytes : List ℕ) (window : Window) → n ≤ 32 → (32 ≤ window.count) ⊎ (window.at ≡ length bytes)
    → (n ≤ window.count) ⊎ (length bytes ≤ window.at)
enough n bytes window few h = grind arith

-- a 1 is a mode of its own
one_is_code : IsCode modes (true ∷ []) (Vertical (pos 0))
unfolding modes code_bits
one_is_code = record {
  entry = record { code = 1; len = 1; meaning = Vertical (pos 0) };
  listed = listed modes 2 (record { code = 1; len = 1; meaning = Vertical (pos 0) }) refl;
  means = refl;
  spelled = refl;
}

-- what begins so many bits is no longer
pub fits_in_number : {F : Type 0} {means : List Bool → F → Type 0} (n number : ℕ) {len : ℕ} {found : F}
    → IsBegun means (code_bits n number) len found → len ≤ n
fits_in_number n number origin =
    omega (
      arith,
      origin.long,
      ap length origin.ahead.1,
      length-append origin.front origin.ahead.0,
      length-code_bits n
          number,
    )

-- a window after some of its bits
pub after_ahead : (order : FillOrder) (bytes : List ℕ) (old after : Window) (n : ℕ) → IsAhead order bytes old
    → bits_ahead order bytes after ≡ drop n (bits_ahead order bytes old) → after.count + n ≡ old.count
    → after.at ≡ old.at
    → IsAhead order bytes after
after_ahead order bytes old after n is ahead count at = grind (arith, common_steps)

-- a window at the place of another, of which more may be loaded
module _ (order : FillOrder) (bytes : List ℕ) (old window : Window) (source : Source) (is : IsAhead order bytes old)
    (shown : source_of order bytes (bit_offset old) ≡ source)
    (same : bits_ahead order bytes window ≡ bits_ahead order bytes old)
    (place : 8 * window.at + old.count ≡ 8 * old.at + window.count) (within : window.at ≤ length bytes) where
  pub loaded_left : bits_ahead order bytes window ≡ source.remaining
  loaded_left = same ∙ is.bits_are ∙ ap (λ (s : Source). s.remaining) shown

  pub loaded-remaining : window.count ≤ length source.remaining
  loaded-remaining = grind (arith, common_steps, length-first_bits)

  -- where all bytes are loaded, no bits are left but those of the window
  pub all_loaded : window.at ≡ length bytes → length source.remaining ≡ window.count
  all_loaded all = grind (arith, length-remaining)

  -- after some of its bits
  module _ (n : ℕ) (after : Window) (short : n ≤ 32) (count : after.count + n ≡ window.count)
      (at : after.at ≡ window.at) where
    pub left_after_code : drop (bit_offset after) (bits order bytes) ≡ drop n source.remaining
    left_after_code = grind (arith, common_steps)

    pub end_kept : KeepsEnd source (source_of order bytes (bit_offset after))
    end_kept = grind (arith, length-remaining)

  -- zeros and the 1 after them are skipped
  pub zeros_taken : (zeros : ℕ) (after : Window) → zeros < 32 → HasLeadingZeros (bits_ahead order bytes window) zeros
      → after.count + (zeros + 1) ≡ window.count → after.at ≡ window.at
      → source.remaining ≡ replicate zeros false ++ true ∷ drop (bit_offset after) (bits order bytes)
  zeros_taken zeros after short ahead count at =
      let front = replicate zeros false in
      let is : source.remaining ≡ front ++ true ∷ ahead.0 = sym loaded_left ∙ ahead.1 in
      let long : zeros + 1 ≡ length front + 1 = ap (λ n. n + 1) (sym (length-replicate zeros false)) in
      let rest : drop (bit_offset after) (bits order bytes) ≡ ahead.0 =
      left_after_code (zeros + 1) after (omega arith) count at ∙ ap (drop (zeros + 1)) is
      ∙ ap (λ n. drop n (front ++ true ∷ ahead.0)) long ∙ drop-append-add front (true ∷ ahead.0) 1 in
      is ∙ ap (λ b. front ++ true ∷ b) (sym rest)

  -- a 1 is skipped
  pub one_looked_up : (after : Window) → HasLeadingZeros (bits_ahead order bytes window) 0
      → after.count + 1 ≡ window.count
      → after.at ≡ window.at
      → IsLookedUp (IsCode modes) source (Vertical (pos 0)) (source_of order bytes (bit_offset after))
  one_looked_up after one count at =
      let is : source.remaining ≡ true ∷ one.0 = sym loaded_left ∙ one.1 in
      let rest : one.0 ≡ drop (bit_offset after) (bits order bytes) =
      sym (ap (drop 1) is) ∙ sym (left_after_code 1 after (omega arith) count at) in
      record {
        front = true ∷ [];
        meaning = one_is_code;
        taken = is ∙ ap (λ b. true ∷ b) rest;
        same_end = end_kept 1 after (omega arith) count at;
        shorter = omega (arith, ap length is, ap length rest);
      }

  -- ones that stand next
  module _ (n : ℕ) (all : n ≤ window.count) (ones : take n (bits_ahead order bytes window) ≡ replicate n true) where
    pub ones_left : take n source.remaining ≡ replicate n true
    ones_left = ap (take n) (sym loaded_left) ∙ ones

    pub ones_taken : (k : ℕ) → k ≤ n → k ≤ 32 → (after : Window) → after.count + k ≡ window.count → after.at ≡ window.at
        → source.remaining ≡ replicate k true ++ drop (bit_offset after) (bits order bytes)
    ones_taken k few short after count at =
        sym (take-append-drop k source.remaining)
        ∙ ap (λ front. front ++ drop k source.remaining)
        (sym (take-take k n source.remaining few) ∙ ap (take k) ones_left ∙ take-replicate k n true few)
        ∙ ap (λ rest. replicate k true ++ rest) (sym (left_after_code k after short count at))

  -- the next n bits, which are loaded
  module _ (n : ℕ) (few : n ≤ 32) (many : n ≤ window.count) (number : ℕ) (number_is : number
      ≡ bits_number (take n (padded (bits_ahead order bytes window) n))) where
    spelled_is : number ≡ bits_number (take n (padded source.remaining n))
    spelled_is = number_is ∙ ap (λ b. bits_number (take n (padded b n))) loaded_left

    -- the first of them mean what is found, and the window after them stands behind these
    module _ {F : Type 0} {means : List Bool → F → Type 0} {len : ℕ} {found : F}
        (origin : IsBegun means (code_bits n number) len found)
        (after : Window) (count : after.count + len ≡ window.count) (at : after.at ≡ window.at) where
      short : len ≤ 32
      short = omega (arith, fits_in_number n number origin, few)

      front_left : drop (bit_offset after) (bits order bytes) ≡ drop (length origin.front) source.remaining
      front_left = left_after_code len after short count at ∙ ap (λ n. drop n source.remaining) (sym origin.long)

      front_taken : source.remaining ≡ origin.front ++ drop (bit_offset after) (bits order bytes)
      front_taken =
          left_after source.remaining origin.front (origin.ahead.0 ++ drop n source.remaining) (length origin.front)
          (sym (take-append-drop n source.remaining)
          ∙ ap (λ b. b ++ drop n source.remaining)
          (sym (peeked_bits source.remaining n (omega (arith, many, loaded-remaining)) number spelled_is)
          ∙ origin.ahead.1)
          ∙ append_assoc origin.front origin.ahead.0 (drop n source.remaining))
          refl
          ∙ ap (λ rest. origin.front ++ rest) (sym front_left)

      pub looked_up : IsLookedUp means source found (source_of order bytes (bit_offset after))
      looked_up = grind (arith, front_taken, length-append)
