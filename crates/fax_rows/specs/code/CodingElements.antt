-- What a coder of two-dimensional rows knows of the places ahead of it.
use Rattle.std.specs.Prelude.{◌≡◌, ℕ, ◌+◌, ◌-◌, ◌<◌, Bool, List, ◌++◌, Option, Some, unwrap_or}
use Rattle.std.specs.Prelude.{slice_index}
use Rattle.fax_bits.specs.declared.Colour.{Colour}
use Rattle.fax_bits.specs.declared.Colour.TheVariants.{Black}
use Rattle.fax_bits.specs.declared.mode_codes.ModeCode.{ModeCode}
use Rattle.fax_bits.specs.Written.{run_bits, mode_bits}
use Rattle.fax_rows.specs.declared.put_rows.CodingElements.{CodingElements}
use Rattle.fax_rows.specs.declared.put_rows.EncoderState.{EncoderState}
use Rattle.fax_rows.specs.declared.change_list.RowPair.{RowPair}
use Rattle.fax_rows.specs.code.Choice.{changes, colour_of, canonical_mode, run_pair_bits, next_a0}
use Rattle.fax_rows.specs.Rows.{other, next_change, b1, b2}
use Rattle.fax_rows.specs.code.ChangingElements.{element_pels, IsB1At}
use Rattle.fax_rows.specs.code.ChangeLists.{alternate, IsFrom}

-- the indexes are those of a1 and b1 as seen from a0, while the row is not at its end
-- (T.4, section 4.2.1.3.1)
pub record IsEncoderState (rows : RowPair) (at : EncoderState) : Type 0 where
  pub row : unwrap_or at.a0 0 < rows.row.width
      → IsFrom rows.row.changes.now rows.row.end at.a0 at.row
  pub reference : unwrap_or at.a0 0 < rows.row.width
      → IsB1At rows.reference at.a0 (alternate Black at.row) at.reference

-- the places are those of the two rows as seen from a0 inside the row, and stand at these indexes
-- (T.4, section 4.2.1.3.1)
pub record AreCodingElements (rows : RowPair) (ahead : CodingElements) : Type 0 where
  pub unfinished : unwrap_or ahead.a0 0 < rows.row.width
  pub a1 : ahead.a1 ≡ next_change (element_pels rows.row) ahead.a0
  pub a2 : ahead.a2 ≡ next_change (element_pels rows.row) (Some ahead.a1)
  pub b1 : ahead.b1 ≡ b1 (element_pels rows.reference) ahead.a0 ahead.colour
  pub b2 : ahead.b2 ≡ b2 (element_pels rows.reference) ahead.a0 ahead.colour
  pub colour : ahead.colour ≡ colour_of (element_pels rows.row) ahead.a0
  pub after : ahead.colour ≡ alternate Black ahead.row
  pub row : IsFrom rows.row.changes.now rows.row.end ahead.a0 ahead.row
  pub reference : IsB1At rows.reference ahead.a0 ahead.colour ahead.reference
  pub a1_at : ahead.a1 ≡ slice_index rows.row.changes.now ahead.row
  pub a2_at : ahead.a2 ≡ slice_index rows.row.changes.now (ahead.row + 1)
  pub b1_at : ahead.b1 ≡ slice_index rows.reference.changes.now ahead.reference
  pub b2_at : ahead.b2 ≡ slice_index rows.reference.changes.now (ahead.reference + 1)

-- the mode of the step from a0 (T.4, section 4.2.1.3.3)
abbrev pub canonical_mode_from : List Colour → List Colour → Option ℕ → ModeCode
canonical_mode_from reference row a0 = canonical_mode (changes reference row a0)

-- the bits of the step from a0 (T.4, section 4.2.1.3.3)
abbrev pub step_bits_from : List Colour → List Colour → Option ℕ → List Bool
step_bits_from reference row a0 =
    mode_bits (canonical_mode_from reference row a0)
    ++ run_pair_bits (canonical_mode_from reference row a0) row a0
    (changes reference row a0)

-- where the step after that from a0 begins (T.4, section 4.2.1.3.2)
abbrev pub a0_after_step : List Colour → List Colour → Option ℕ → ℕ
a0_after_step reference row a0 = next_a0 (canonical_mode_from reference row a0) (changes reference
    row a0)

-- these two of a row that is written over its reference row
abbrev pub bits_ahead : RowPair → Option ℕ → List Bool
bits_ahead rows a0 = step_bits_from (element_pels rows.reference) (element_pels rows.row) a0

abbrev pub a0_ahead : RowPair → Option ℕ → ℕ
a0_ahead rows a0 = a0_after_step (element_pels rows.reference) (element_pels rows.row) a0

-- the runs a0a1 and a1a2, the first of a0's colour (T.4, section 4.2.1.3.2)
abbrev pub run_pair : CodingElements → List Bool
run_pair ahead = run_bits ahead.colour (ahead.a1 - unwrap_or ahead.a0 0) ++ run_bits
    (other ahead.colour) (ahead.a2 - ahead.a1)
