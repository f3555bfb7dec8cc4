-- Parts of the faults of rows.
-- A definition without a citation is this project's profile.
use Rattle.std.specs.Prelude.{ℕ, ◌+◌, ◌≤◌, ◌⊎◌, Bool, List, length}
use Rattle.fax_bits.specs.declared.Colour.{Colour}
use Rattle.fax_bits.specs.Codes.{IsRun}
use Rattle.fax_rows.specs.declared.RowFault.{RowFault}
use Rattle.fax_rows.specs.Rows.{Position, first_pel, other}
use Rattle.fax_rows.specs.code.CodingSteps.{IsRunFault}

-- a fault in a run from the pel `from` on, or after a first run within the row in the run of the
-- other colour after it
abbrev pub IsPairFault : Colour → ℕ → ℕ → List Bool → RowFault → Type 0
IsPairFault colour width from b fault =
    IsRunFault colour width from b fault
    ⊎ ((first : ℕ) × (middle : List Bool)
    × IsRun colour b first middle × (from + first ≤ width)
    × IsRunFault (other colour) width (from + first) middle fault)

-- horizontal mode with a fault in one of its runs
abbrev pub IsHorizontalFault : List Colour → Position → List Bool → RowFault → Type 0
IsHorizontalFault reference at b fault =
    IsPairFault at.colour (length reference) (first_pel at) b fault
