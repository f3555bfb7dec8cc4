-- Steps that are read, and whether T.4 would have chosen them.
use Rattle.fax_rows.specs.ReadRows.{read_steps}
use Rattle.std.specs.Prelude.{◌≡◌, ℕ, ◌+◌, ◌<◌, ◌≤◌, ◌⊎◌, Bool, true, List, [], ◌∷◌, ◌++◌}
use Rattle.std.specs.Prelude.{length, take}
use Rattle.std.specs.Prelude.{replicate, Some}
use Rattle.fax_bits.specs.declared.Colour.{Colour}
use Rattle.fax_bits.specs.Codes.{IsRun}
use Rattle.fax_bits.specs.Written.{run_bits}
use Rattle.fax_rows.specs.Rows.{other, pel, is_right_of, Position, first_pel}
use Rattle.fax_rows.specs.code.Seen.{b1_from, b2_from}
use Rattle.fax_rows.specs.code.CodingElements.{step_bits_from, a0_after_step}

-- the row has the pels that are read, and a0's colour at a0 (T.4, section 4.2.1.3.1)
pub record ExtendsPosition (row : List Colour) (at : Position) : Type 0 where
  pub read : at.pels ≡ take (first_pel at) row
  pub coloured : (a : ℕ) → at.a0 ≡ Some a → a < length row → pel row a ≡ at.colour

-- the bits are those of the step that T.4 chooses for the row (T.4, section 4.2.1.3.3)
pub record IsStepOf (reference row : List Colour) (old : Position) (b : List Bool) (new : Position)
    (rest : List Bool) : Type 0 where
  pub before : ExtendsPosition row old
  pub place : new.a0 ≡ Some (a0_after_step reference row old.a0)
  pub bits : b ≡ step_bits_from reference row old.a0 ++ rest

-- and are so for each row that continues from the new position
abbrev pub IsCanonicalStep : List Colour → Position → List Bool → Position → List Bool → Type 0
IsCanonicalStep reference old b new rest =
    (row : List Colour) → length row ≡ length reference → ExtendsPosition row new
    → IsStepOf reference row old b new rest

-- the bits begin with others, after which the row is read on from the new position (T.4, section
-- 4.2.1.3.4)
pub record ReachesBySteps (reference : List Colour) (old : Position) (b : List Bool) (new :
    Position)
    (rest : List Bool) : Type 0 where
  pub front : List Bool
  pub parts : b ≡ front ++ rest
  pub reads : read_steps reference old b ≡ read_steps reference new rest

-- the bits begin with steps that T.4 chooses, through these positions, each from before the end
abbrev pub AreCanonicalSteps : List Colour → Position → List Bool → List Position → Position
    → List Bool → Type 0
AreCanonicalSteps reference old b [] new rest = (new ≡ old) × (b ≡ rest)
AreCanonicalSteps reference old b (next ∷ more) new rest =
    (first_pel old < length reference) × (middle : List Bool)
    × IsCanonicalStep reference old b next middle × AreCanonicalSteps reference next middle more new
    rest

-- and through some positions
pub record ReachesByCanonicalSteps (reference : List Colour) (old : Position) (b : List Bool)
    (new : Position) (rest : List Bool) : Type 0 where
  pub positions : List Position
  pub steps : AreCanonicalSteps reference old b positions new rest

-- the bits begin with a run of the colour and one of the other
pub record AreTwoRuns (colour : Colour) (b : List Bool) (first second : ℕ) (rest : List Bool)
    : Type 0 where
  pub middle : List Bool
  pub first_run : IsRun colour b first middle
  pub second_run : IsRun (other colour) middle second rest

-- where two runs of so many pels end, the first of a0's colour (T.4, section 4.2.1.3.2)
abbrev pub after_pair : Position → ℕ → ℕ → Position
after_pair old first second =
    record {
      a0 = Some (first_pel old + first + second);
      colour = old.colour;
      pels = old.pels ++ replicate first old.colour ++ replicate second (other old.colour);
    }

-- the two runs of horizontal mode are those that T.4 chooses, where the row continues in a0's
-- colour (T.4, sections 4.2.1.3.2 and 4.2.1.3.3)
pub record IsCanonicalPair (reference : List Colour) (old : Position) (b : List Bool) (new :
    Position)
    (rest : List Bool) : Type 0 where
  pub first : ℕ
  pub second : ℕ
  pub within : first_pel old + first + second ≤ length reference
  pub right : is_right_of old.a0 (first_pel old + first) ≡ true
  pub some : first_pel old + first < length reference → 0 < second
  pub left_hand : first_pel old + first ≤ b2_from reference old
  pub far : (first_pel old + first + 3 < b1_from reference old)
      ⊎ (b1_from reference old + 3 < first_pel old + first)
  pub bits : b ≡ (run_bits old.colour first ++ run_bits (other old.colour) second) ++ rest
  pub new_is : new ≡ after_pair old first second
