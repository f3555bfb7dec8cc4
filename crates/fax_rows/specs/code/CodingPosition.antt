-- How far a row is read in two-dimensional coding.
use Rattle.std.specs.Prelude.{ℕ, List, take, unwrap_or}
use Rattle.fax_bits.specs.declared.Colour.{Colour}
use Rattle.fax_rows.specs.declared.two_dimensional.steps.CodingPosition.{CodingPosition}
use Rattle.fax_rows.specs.Rows.{Position}

-- the first pel that is not read (T.4, section 4.2.1.3.4)
abbrev pub position_pel : CodingPosition → ℕ
position_pel at = unwrap_or at.a0 0

-- the position on a row whose pels before a0 are read (T.4, section 4.2.1.3.1)
abbrev pub position_of : CodingPosition → List Colour → Position
position_of at row = record { a0 = at.a0; colour = at.colour; pels = take (position_pel at) row }
