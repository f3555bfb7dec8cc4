-- The step that T.4 chooses is a step to the place that it leads to.
use Rattle.fax_rows.proofs.ColourLemmas.{other-other}
use Rattle.std.proofs.Common.{rules, ◌≡◌, ℕ, suc, ◌+◌, ◌-◌, ◌<◌, ◌≤◌, List, ◌++◌, length, take, replicate, Bool, true}
use Rattle.std.proofs.Common.{false, refl, ap, sym}
use Rattle.std.proofs.Common.{◌∙◌, arith, append_assoc}
use Rattle.std.proofs.lemmas.Grind.{common_steps}
use Rattle.std.specs.Prelude.{ℤ, pos, negsuc, ◌-ℤ◌, ◌+ℤ◌, ◌<ℤ◌, ◌≤ℤ◌, nat_abs, nat_lt, nat_le, if◌then◌else◌, Option}
use Rattle.std.specs.Prelude.{Some, None}
use Rattle.std.proofs.lemmas.Bool.{ltb-true}
use Rattle.std.proofs.lemmas.Bool.Decides.{nat_tests}
use Rattle.std.proofs.lemmas.Int.{ints}
use Rattle.fax_bits.specs.declared.Colour.{Colour}
use Rattle.fax_bits.specs.declared.mode_codes.ModeCode.{ModeCode}
use Rattle.fax_bits.specs.declared.mode_codes.ModeCode.TheVariants.{Pass, Horizontal, Vertical}
use Rattle.fax_bits.specs.laws.Codes.{RunBitsAreRead}
use Rattle.fax_bits.specs.views.Codes.{IsWritten}
use Rattle.fax_bits.specs.Written.{run_bits}
use Rattle.fax_rows.specs.Rows.{other, pel, next_change, is_right_of, b1, b2, Position, a0_number}
use Rattle.fax_rows.specs.code.CodingSteps.{IsStepBy}
use Rattle.fax_rows.specs.laws.Rows.{HasWidth}
use Rattle.fax_rows.specs.code.Choice.{changes, colour_of, canonical_mode, run_pair_bits, next_a0}
use Rattle.fax_rows.proofs.ChangeLemmas.{IsNextChange, next_change_is, colour_up_to, colour_at, next_is_ahead}
use Rattle.fax_rows.proofs.ChangeLemmas.{pels_up_to, first_of}
use Rattle.fax_rows.proofs.ChangeLemmas.{next_of_within, next_of_right}

-- the position at a place of a row
abbrev pub here : List Colour → Option ℕ → Colour → Position
here row a0 colour = record { a0 = a0; colour = colour; pels = take (first_of a0) row }

-- how many places the start of a step has passed: 0 just before the first pel
abbrev pub passed : Option ℕ → ℕ
passed None = 0
passed (Some a) = suc a

-- a0's colour after a step
abbrev pub colour_after : ModeCode → Colour → Colour
colour_after (Vertical d) colour = other colour
colour_after _ colour = colour

-- the mode makes a step from a0, with these bits after its code
pub record IsChosen (reference row : List Colour) (a0 : Option ℕ) (rest : List Bool) (mode : ModeCode) : Type 0 where
  pub written : IsWritten mode
  pub step : IsStepBy mode reference (here row a0 (colour_of row a0))
      (run_pair_bits mode row a0 (changes reference row a0) ++ rest)
      (here row (Some (next_a0 mode (changes reference row a0))) (colour_after mode (colour_of row a0))) rest
  pub right : passed a0 < passed (Some (next_a0 mode (changes reference row a0)))
  pub within : next_a0 mode (changes reference row a0) ≤ length row
  pub colour : next_a0 mode (changes reference row a0) < length row
      → colour_after mode (colour_of row a0) ≡ pel row (next_a0 mode (changes reference row a0))

pub passed_within : (from : Option ℕ) (width : ℕ) → first_of from < width → passed from ≤ width
passed_within from width h = grind arith

-- a place right of the start of a step, or the width, is passed later
passes : (from : Option ℕ) (column width : ℕ) → first_of from < width → column ≤ width
    → (column < width → is_right_of from column ≡ true)
    → passed from ≤ column
passes from column width unfinished within right = grind (arith, common_steps)

pub first_passed : (from : Option ℕ) (column : ℕ) → passed from ≤ column → first_of from ≤ column
first_passed from column h = grind arith

number_passes : (from : Option ℕ) (colour : Colour) (pels : List Colour) (column : ℕ) → passed from ≤ column
    → a0_number (record { a0 = from; colour = colour; pels = pels }) <ℤ pos column
number_passes from colour pels column h = grind arith

-- a difference of at most 3 places
near_is_written : (d : ℤ) → nat_abs d ≤ 3 → (negsuc 2 ≤ℤ d) × (d ≤ℤ pos 3)
near_is_written d near = grind arith

-- a place right of the start of a step, and not after the row
pub record IsPlaceAhead (from : Option ℕ) (width column : ℕ) : Type 0 where
  pub right : passed from ≤ column
  pub within : column ≤ width

pub passed_right : (from : Option ℕ) (column : ℕ) → passed from ≤ column → is_right_of from column ≡ true
passed_right from column h = grind arith

module _ (reference row : List Colour) (same_width : length reference ≡ length row) (a0 : Option ℕ)
    (unfinished : first_of a0 < length row) where
  pub a1_is : IsNextChange row a0 (next_change row a0)
  a1_is = next_change_is row a0

  pub a1_right : passed a0 ≤ next_change row a0
  a1_right = passes a0 (next_change row a0) (length row) unfinished a1_is.within a1_is.right

  pub b1_within : b1 reference a0 (colour_of row a0) ≤ length row
  b1_within = omega (arith, next_of_within reference a0 (colour_of row a0))

  pub b1_right : passed a0 ≤ b1 reference a0 (colour_of row a0)
  b1_right = search (rules, passes, b1_within, next_of_right)

  b2_is : IsNextChange reference (Some (b1 reference a0 (colour_of row a0))) (b2 reference a0 (colour_of row a0))
  b2_is = next_change_is reference (Some (b1 reference a0 (colour_of row a0)))

  pub b2_within : b2 reference a0 (colour_of row a0) ≤ length row
  b2_within = omega (arith, b2_is.within)

  pub b2_right : passed a0 ≤ b2 reference a0 (colour_of row a0)
  b2_right = omega (
    arith,
    b1_right,
    next_is_ahead (Some (b1 reference a0 (colour_of row a0))) b2_is
        (omega (arith, b1_within)),
  )

  pass_chosen : (rest : List Bool) → b2 reference a0 (colour_of row a0) < next_change row a0
      → IsChosen reference row a0 rest Pass
  pass_chosen rest remaining =
      let ahead = first_passed a0 (b2 reference a0 (colour_of row a0)) b2_right in
      let pels = pels_up_to row (first_of a0) (b2 reference a0 (colour_of row a0)) (colour_of row a0) ahead b2_within
      (λ k h l. colour_up_to a1_is k h (omega arith)) in
      record {
        written = tt;
        step = (cc, refl);
        right = omega (arith, b2_right);
        within = b2_within;
        colour = λ h. sym (colour_up_to a1_is (b2 reference a0 (colour_of row a0)) ahead remaining);
      }

  -- where a1 stands as seen from b1
  a1_from_b1 : pos (b1 reference a0 (colour_of row a0)) +ℤ (pos (next_change row a0) -ℤ pos
      (b1 reference a0 (colour_of row a0)))
      ≡ pos (next_change row a0)
  a1_from_b1 = omega (arith, ints)

  vertical_chosen : (rest : List Bool) → nat_abs (pos (next_change row a0) -ℤ pos (b1 reference a0 (colour_of row a0)))
      ≤ 3
      → IsChosen reference row a0 rest (Vertical (pos (next_change row a0) -ℤ pos (b1 reference a0 (colour_of row a0))))
  vertical_chosen rest near =
      let ahead = first_passed a0 (next_change row a0) a1_right in
      let pels = pels_up_to row (first_of a0) (next_change row a0) (colour_of row a0) ahead a1_is.within
      (colour_up_to a1_is) in
      record {
        written = near_is_written _ near;
        step = (
          record {
            in_row = record {
              right_of_a0 = rw a1_from_b1 (number_passes a0 (colour_of row a0) (take (first_of a0) row)
                  (next_change row a0) a1_right);
              within = rw a1_from_b1 (omega (arith, ints, a1_is.within));
            };
            a1 = next_change row a0;
            a1_is = sym a1_from_b1;
            new_is = cc;
          },
          refl,
        );
        right = omega (arith, a1_right);
        within = a1_is.within;
        colour = λ h. sym (colour_at a1_is h);
      }

  a2_is : IsNextChange row (Some (next_change row a0)) (next_change row (Some (next_change row a0)))
  a2_is = next_change_is row (Some (next_change row a0))

  a2_ahead : next_change row a0 ≤ next_change row (Some (next_change row a0))
  a2_ahead = next_is_ahead (Some (next_change row a0)) a2_is a1_is.within

  -- the pels from a1 to a2
  second_run : (k : ℕ) → next_change row a0 ≤ k → k < next_change row (Some (next_change row a0))
      → pel row k ≡ other (colour_of row a0)
  second_run k h l =
      colour_up_to a2_is k h l
      ∙ colour_at a1_is (omega (arith, a2_is.within))

  -- the colour of a2
  third_run : next_change row (Some (next_change row a0)) < length row
      → colour_of row a0 ≡ pel row (next_change row (Some (next_change row a0)))
  third_run h =
      sym (colour_at a2_is h
      ∙ ap other (colour_at a1_is (omega (arith, a2_ahead)))
      ∙ other-other (colour_of row a0))

  horizontal_chosen : RunBitsAreRead → HasWidth row → (rest : List Bool) → IsChosen reference row a0 rest Horizontal
  horizontal_chosen runs_read limits rest =
      let ahead = first_passed a0 (next_change row a0) a1_right in
      let first_pels = pels_up_to row (first_of a0) (next_change row a0) (colour_of row a0) ahead a1_is.within
      (colour_up_to a1_is) in
      let second_pels = pels_up_to row (next_change row a0) (next_change row (Some (next_change row a0)))
      (other (colour_of row a0))
      a2_ahead a2_is.within second_run in
      let sums : first_of a0 + (next_change row a0 - first_of a0) +
      (next_change row (Some (next_change row a0)) - next_change row a0)
      ≡ next_change row (Some (next_change row a0)) = omega (arith, a2_ahead) in
      let both = sym second_pels
      ∙ ap (λ pels. pels ++ replicate (next_change row (Some (next_change row a0)) - next_change row a0)
      (other (colour_of row a0)))
      (sym first_pels)
      ∙ append_assoc (take (first_of a0) row) (replicate (next_change row a0 - first_of a0) (colour_of row a0))
      (replicate (next_change row (Some (next_change row a0)) - next_change row a0) (other (colour_of row a0))) in
      record {
        written = tt;
        step = record {
          first = next_change row a0 - first_of a0;
          second = next_change row (Some (next_change row a0)) - next_change row a0;
          middle = run_bits (other (colour_of row a0)) (next_change row (Some (next_change row a0)) - next_change row
              a0) ++ rest;
          first_run = rw append_assoc (runs_read (colour_of row a0) (next_change row a0 - first_of a0) _
              (omega (arith, a1_is.within, limits.short)));
          second_run = runs_read (other (colour_of row a0)) _ rest (omega (arith, a2_is.within, limits.short));
          within = omega (arith, a2_is.within);
          new_is = cc;
        };
        right = omega (arith, a1_right, a2_ahead);
        within = a2_is.within;
        colour = third_run;
      }

  -- the mode by the two tests that choose it
  by_tests : RunBitsAreRead → HasWidth row → (rest : List Bool) (pass near : Bool)
      → nat_lt (b2 reference a0 (colour_of row a0)) (next_change row a0) ≡ pass
      → nat_le (nat_abs (pos (next_change row a0) -ℤ pos (b1 reference a0 (colour_of row a0)))) 3 ≡ near
      → IsChosen reference row a0 rest
      (if pass then Pass
      else (if near then Vertical (pos (next_change row a0) -ℤ pos (b1 reference a0 (colour_of row a0))) else
      Horizontal))
  by_tests runs_read limits rest true near is put_sentinels = pass_chosen rest (ltb-true _ _ is)
  by_tests runs_read limits rest false true is put_sentinels = vertical_chosen rest (grind (arith, nat_tests))
  by_tests runs_read limits rest false false is put_sentinels = horizontal_chosen runs_read limits rest

  pub chosen : RunBitsAreRead → HasWidth row → (rest : List Bool)
      → IsChosen reference row a0 rest (canonical_mode (changes reference row a0))
  chosen runs_read limits rest = by_tests runs_read limits rest _ _ refl refl

  -- the next step begins further right, and within the row
  place_by_tests : (pass near : Bool) → nat_lt (b2 reference a0 (colour_of row a0)) (next_change row a0) ≡ pass
      → IsPlaceAhead a0 (length row)
      (next_a0
      (if pass then Pass
      else (if near then Vertical (pos (next_change row a0) -ℤ pos (b1 reference a0 (colour_of row a0))) else
      Horizontal))
      (changes reference row a0))
  place_by_tests pass near is = grind (arith, b2_right, b2_within, a1_right, a2_ahead, a2_is)

  pub a0_ahead : IsPlaceAhead a0 (length row) (next_a0 (canonical_mode (changes reference row a0))
      (changes reference row a0))
  a0_ahead = place_by_tests _ _ refl
