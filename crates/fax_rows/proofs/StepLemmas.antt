-- A row in two-dimensional coding, step by step.
use Rattle.std.proofs.Common.{◌≡◌, ℕ, ◌<◌, List, length, Option, Some, arith}
use Rattle.std.specs.Prelude.{unwrap_or}
use Rattle.fax_bits.specs.declared.Colour.{Colour}

-- a row is unfinished while a pel is left
pub unfinished_below : (reference : List Colour) (o : Option ℕ) → unwrap_or o 0 < length reference
    → o ≡ Some (length reference) → ⊥
unfinished_below reference o less e = grind arith
