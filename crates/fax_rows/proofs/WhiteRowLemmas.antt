-- White rows: their places of change, and their codes.
use Rattle.std.proofs.lemmas.Grind.{common_steps}
use Rattle.std.specs.Simd.{first_chunks}
use Rattle.fax_bits.specs.Bits.{packed, code_bits, bits_number}
use Rattle.std.proofs.Common.{◌≡◌, ℕ, zero, suc, ◌+◌, ◌-◌, ◌*◌, ◌<◌, ◌≤◌, ◌↔◌, List, [], ◌∷◌, ◌++◌, length, get_or, map}
use Rattle.std.proofs.Common.{replicate, Bool, true, false}
use Rattle.std.proofs.Common.{refl, ap, sym, ◌∙◌, arith, IsTrue, append-nil}
use Rattle.std.specs.Prelude.{Option, Some, None, pos, nat_eq}
use Rattle.std.proofs.lemmas.List.{get_or-replicate, length-replicate, replicate-append-replicate, drop-replicate}
use Rattle.std.proofs.lemmas.List.{take-replicate}
use Rattle.fax_bits.specs.declared.Colour.{Colour}
use Rattle.fax_bits.specs.declared.Colour.TheVariants.{White}
use Rattle.fax_bits.specs.Tables.{modes}
use Rattle.fax_bits.specs.Written.{mode_bits, run_bits}
use Rattle.fax_bits.specs.declared.mode_codes.ModeCode.TheVariants.{Vertical}
use Rattle.fax_rows.specs.Coded.{packed_len, packed_row, is_black, alternating_bits, one_dimensional_bits}
use Rattle.fax_rows.specs.Coded.{two_dimensional_bits}
use Rattle.fax_rows.specs.Rows.{pel, is_changing, next_change, b1, runs_after}
use Rattle.fax_rows.specs.code.ChangeLists.{AreChanges, row_of}
use Rattle.fax_rows.proofs.ChangeLemmas.{first_place_is, next_change_is}
use Rattle.fax_rows.proofs.PlacedRowLemmas.{all_white, width_is}
use Rattle.fax_rows.proofs.TurnLemmas.{changing_at}
use Rattle.fax_rows.proofs.WrittenLemmas.{step_bits-end, step_bits-more}
use Rattle.fax_rows.specs.code.Choice.{changes, canonical_mode}

-- a white row of this width
abbrev white : ℕ → List Colour
white width = replicate width White

-- its pels are white
white_pel : (width i : ℕ) → i < width → pel (white width) i ≡ White
white_pel width i inside = get_or-replicate width i White White inside

-- no pel of it is a changing element
pub none_changes : (width i : ℕ) → i < width → is_changing (white width) i ≡ false
none_changes width i inside = grind (arith, white_pel)

module _ {changes : List ℕ} {end width : ℕ} (all : AreChanges changes end width) where
  -- a row of more places than the first changes at the second
  more_places : 1 < end → row_of changes end width ≡ white width → ⊥
  more_places more is =
      let inside = all.below 1 (omega arith) more in
      let changing = changing_at all.ascending width (get_or changes 1 0) 1 (omega arith) more refl inside in
      let none = none_changes width (get_or changes 1 0) inside in
      cc

  -- a row is white just where it has one place
  one_place : {row : List Colour} → row_of changes end width ≡ row → row ≡ replicate (length row) White
      → IsTrue (nat_eq end 1)
  one_place is white_is = grind (arith, width_is, more_places)

  pub is_white_row : {row : List Colour} → row_of changes end width ≡ row
      → IsTrue (nat_eq end 1) ↔ (row ≡ replicate (length row) White)
  is_white_row is = grind (arith, all_white, one_place)

-- a white row is one run
white_runs : (n k : ℕ) → runs_after White n (white k) ≡ (n + k) ∷ []
unfolding runs_after
white_runs n zero = ap (λ m. m ∷ []) (omega arith)
white_runs n (suc k) = white_runs (n + 1) k ∙ ap (λ m. m ∷ []) (omega arith)

-- in one-dimensional coding it is written as that run
pub white_1d : (width : ℕ) → one_dimensional_bits (white width) ≡ run_bits White width
unfolding alternating_bits
white_1d width = ap (alternating_bits White) (white_runs 0 width ∙ ap (λ m. m ∷ []) (omega arith))
    ∙ append-nil (run_bits White width)

-- no changing element lies right of a place
no_change : (width : ℕ) (from : Option ℕ) → next_change (white width) from ≡ width
no_change width from = grind (arith, common_steps, next_change_is)

no_b1 : (width : ℕ) (from : Option ℕ) (colour : Colour) → b1 (white width) from colour ≡ width
unfolding b1
no_b1 width from colour = grind (arith, common_steps, first_place_is)

-- so that a1 is under b1, and the step ends the row
white_mode : (width : ℕ) → canonical_mode (changes (white width) (white width) None) ≡ Vertical (pos 0)
white_mode width = grind (arith, no_change, no_b1)

-- over a white row it is written as a single 1
pub white_2d : (width : ℕ) → 0 < width → two_dimensional_bits (white width) (white width) ≡ true ∷ []
unfolding mode_bits modes code_bits
white_2d width some =
    let count : length (white width) + 1 ≡ suc width = omega (arith, length-replicate width White) in
    let end = step_bits-end width (white width) (white width) (Some width) (sym (length-replicate width White)) in
    rw (
      count,
      step_bits-more width (white width) (white width) None (omega (arith, length-replicate width White)),
      white_mode width,
      no_change width None,
      end,
    ) refl

-- the codes of a run that were taken are those of a white row
pub chosen_1d : (row : List Colour) (width : ℕ) (b rest : List Bool) → row ≡ replicate (length row) White
    → width ≡ length row
    → b ≡ run_bits White width ++ rest → b ≡ one_dimensional_bits row ++ rest
chosen_1d row width b rest all same taken = grind (arith, white_1d)

-- and a 1 is that of a white row over another
pub chosen_2d : (row : List Colour) (b rest : List Bool) → row ≡ replicate (length row) White → 0 < length row
    → b ≡ true ∷ rest → b ≡ two_dimensional_bits row row ++ rest
chosen_2d row b rest all some taken = grind (arith, white_2d)

-- its pels are zeros as bits
white_bits : (width : ℕ) → map is_black (white width) ≡ replicate width false
white_bits zero = refl
white_bits (suc width) = ap (λ b. false ∷ b) (white_bits width)

-- and so are its bytes
zero_bytes : (n m : ℕ) → 8 * n ≤ m → map bits_number (first_chunks 8 n (replicate m false)) ≡ replicate n 0
zero_bytes zero m within = refl
zero_bytes (suc n) m within =
    rw (take-replicate 8 m false (omega arith), drop-replicate 8 m false)
    (ap (λ bytes. 0 ∷ bytes) (zero_bytes n (m - 8) (omega arith)))

pub white_packed : (width : ℕ) → packed_row (white width) ≡ replicate (packed_len width) 0
unfolding packed_row packed
white_packed width =
    rw (white_bits width, length-replicate width false, replicate-append-replicate width 7 false)
    (zero_bytes (packed_len width) (width + 7) (omega arith))

pub white_bytes : (row : List Colour) → row ≡ replicate (length row) White
    → packed_row row ≡ replicate (packed_len (length row)) 0
white_bytes row is = ap packed_row is ∙ white_packed (length row)
