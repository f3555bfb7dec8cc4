-- b1 and b2 as seen from a position.
use Rattle.std.specs.Prelude.{ℕ, List}
use Rattle.fax_bits.specs.declared.Colour.{Colour}
use Rattle.fax_rows.specs.Rows.{Position, b1, b2}

-- (T.4, section 4.2.1.3.1)
abbrev pub b1_from : List Colour → Position → ℕ
b1_from reference at = b1 reference at.a0 at.colour

abbrev pub b2_from : List Colour → Position → ℕ
b2_from reference at = b2 reference at.a0 at.colour
