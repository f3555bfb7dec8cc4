-- The two colours, and what a test of two of them says.
use Rattle.std.proofs.Common.{arith, ◌≡◌, ◌≢◌, true, false, not}
use Rattle.fax_bits.specs.declared.Colour.{Colour}
use Rattle.fax_rows.specs.Rows.{other, same_colour}

pub other-other : (c : Colour) → other (other c) ≡ c
other-other c = grind arith

-- a colour that is not this one is the other
pub differs_is : (colour pel : Colour) → pel ≢ colour → pel ≡ other colour
differs_is colour pel h = grind arith

pub same_is : (a b : Colour) → not (same_colour a b) ≡ false → a ≡ b
same_is a b h = grind arith

pub other_is : (a b : Colour) → not (same_colour a b) ≡ true → a ≡ other b
other_is a b h = grind arith

pub same_as : (a b : Colour) → a ≡ b → not (same_colour a b) ≡ false
same_as a b h = grind arith

pub other_than : (a b : Colour) → a ≡ other b → not (same_colour a b) ≡ true
other_than a b h = grind arith
