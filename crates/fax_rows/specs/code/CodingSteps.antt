-- What a coding step does, and why one cannot be read, as relations: proofs go by them. What a
-- reader trusts is how rows are read (ReadRows). The sections are those of T.4.
use Rattle.std.specs.Prelude.{◌≡◌, ℕ, ◌+◌, ◌≤◌, ◌⊎◌, ℤ, pos, ◌+ℤ◌, ◌<ℤ◌, ◌≤ℤ◌, Bool, List, ◌++◌}
use Rattle.std.specs.Prelude.{length, replicate, Some}
use Rattle.fax_bits.specs.Codes.{IsRun, Decodes}
use Rattle.fax_bits.specs.Reading.{failed}
use Rattle.fax_bits.specs.Tables.{modes}
use Rattle.fax_bits.specs.declared.codes.CodeEntry.{CodeEntry}
use Rattle.fax_bits.specs.declared.mode_codes.ModeCode.TheVariants as mode
use Rattle.fax_rows.specs.Rows.{Colour, ModeCode, Position, a0_number, b1, b2, coloured_up_to}
use Rattle.fax_rows.specs.Rows.{first_pel, other}
use Rattle.fax_rows.specs.ReadRows.{row_code, read_run}
use Rattle.fax_rows.specs.declared.RowFault.{RowFault}
use Rattle.fax_rows.specs.declared.RowFault.TheVariants as fault

-- a1 at b1 + d lies right of a0 and not after the row's end
pub record IsInRow (reference : List Colour) (at : Position) (d : ℤ) : Type 0 where
  pub right_of_a0 : a0_number at <ℤ (pos (b1 reference at.a0 at.colour) +ℤ d)
  pub within : (pos (b1 reference at.a0 at.colour) +ℤ d) ≤ℤ pos (length reference)

-- vertical mode: a1 is b1 + d, and the colour changes there (section 4.2.1.3.2)
pub record IsVerticalStep (reference : List Colour) (old : Position) (d : ℤ)
    (new : Position) : Type 0 where
  pub in_row : IsInRow reference old d
  pub a1 : ℕ
  pub a1_is : pos a1 ≡ pos (b1 reference old.a0 old.colour) +ℤ d
  pub new_is : new ≡ record (coloured_up_to old a1) { colour = other old.colour }

-- horizontal mode: a run a0a1 of a0's colour and a run a1a2 of the other, within the row; the
-- colour stays (section 4.2.1.3.2)
pub record IsHorizontalStep (reference : List Colour) (old : Position) (b : List Bool)
    (new : Position) (rest : List Bool) : Type 0 where
  pub first : ℕ
  pub second : ℕ
  pub middle : List Bool
  pub first_run : IsRun old.colour b first middle
  pub second_run : IsRun (other old.colour) middle second rest
  pub within : first_pel old + first + second ≤ length reference
  pub new_is : new ≡ record {
    a0 = Some (first_pel old + first + second);
    colour = old.colour;
    pels = old.pels ++ replicate first old.colour ++ replicate second (other old.colour);
  }

-- what a mode does, with the bits after its code (section 4.2.1.3.2)
abbrev pub IsStepBy : ModeCode → List Colour → Position → List Bool → Position → List Bool → Type 0
IsStepBy mode.Pass reference old b new rest =
    (new ≡ coloured_up_to old (b2 reference old.a0 old.colour)) × (b ≡ rest)
IsStepBy (mode.Vertical d) reference old b new rest =
    IsVerticalStep reference old d new × (b ≡ rest)
IsStepBy mode.Horizontal reference old b new rest = IsHorizontalStep reference old b new rest
IsStepBy mode.Extension reference old b new rest = ⊥

-- the bits begin with one coding step from the old position to the new one (section 4.2.1.3.3)
pub record IsStep (reference : List Colour) (old : Position) (b : List Bool) (new : Position)
    (rest : List Bool) : Type 0 where
  pub mode : ModeCode
  pub after : List Bool
  pub taken : Decodes modes b mode after
  pub step : IsStepBy mode reference old after new rest

-- no code of the table begins the bits, and this is the row's fault for it
abbrev pub IsCodeFault : {M : Type 0} → List (CodeEntry M) → List Bool → RowFault → Type 0
IsCodeFault table b fault = row_code table b ≡ failed fault

-- from the pel `from` on the bits begin with no whole run, for this fault
abbrev pub IsRunFault : Colour → ℕ → ℕ → List Bool → RowFault → Type 0
IsRunFault colour width from b fault = read_run colour width from b ≡ failed fault

-- the fault of a mode, with the bits after its code; in horizontal mode it stands in the first run,
-- or after a first run within the row in the second
abbrev pub IsModeFault : ModeCode → List Colour → Position → List Bool → RowFault → Type 0
IsModeFault mode.Pass reference at b fault = ⊥
IsModeFault (mode.Vertical d) reference at b why =
    (IsInRow reference at d → ⊥) × (why ≡ fault.OutOfRow)
IsModeFault mode.Horizontal reference at b fault =
    IsRunFault at.colour (length reference) (first_pel at) b fault
    ⊎ ((first : ℕ) × (middle : List Bool) × IsRun at.colour b first middle
    × (first_pel at + first ≤ length reference)
    × IsRunFault (other at.colour) (length reference) (first_pel at + first) middle fault)
IsModeFault mode.Extension reference at b why = why ≡ fault.Extension

-- the bits begin with a step that has this fault
abbrev pub IsStepFault : List Colour → Position → List Bool → RowFault → Type 0
IsStepFault reference at b fault =
    IsCodeFault modes b fault
    ⊎ ((m : ModeCode) × (after : List Bool) × Decodes modes b m after
    × IsModeFault m reference at after fault)
