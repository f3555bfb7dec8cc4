-- Pels that are painted from a place on.
use Rattle.std.proofs.lemmas.Grind.{common_steps}
use Rattle.std.proofs.Common.{◌≡◌, ℕ, ◌+◌, ◌<◌, ◌≤◌, List, ◌++◌, length, take, get_or, replicate, arith, length-append}
use Rattle.std.specs.Prelude.{◌⊎◌}
use Rattle.std.proofs.lemmas.Bool.{cases_lt}
use Rattle.std.proofs.lemmas.List.{length-replicate, ext_get_or, length-take-le}
use Rattle.fax_bits.specs.declared.Colour.{Colour}
use Rattle.fax_bits.specs.declared.Colour.TheVariants.{White}

-- the pels up to the last painted one
pub painted_front : (old new : List Colour) (from n : ℕ) (colour : Colour) → from + n ≤ length old
    → length new ≡ length old
    → ((k : ℕ) → k < from → get_or new k White ≡ get_or old k White)
    → ((k : ℕ) → from ≤ k → k < from + n → get_or new k White ≡ colour)
    → take (from + n) new ≡ take from old ++ replicate n colour
painted_front old new from n colour within len before painted =
    ext_get_or White (take (from + n) new) (take from old ++ replicate n colour)
    (omega (arith, length-append (take from old) (replicate n colour), length-replicate n colour, short, long))
    (λ k h. by k (omega (arith, long)) (cases_lt k from))
  where
    short : length (take from old) ≡ from
    short = length-take-le from old (omega arith)

    long : length (take (from + n) new) ≡ from + n
    long = length-take-le (from + n) new (omega arith)

    by : (k : ℕ) → k < from + n → (k < from) ⊎ (from ≤ k)
        → get_or (take (from + n) new) k White ≡ get_or (take from old ++ replicate n colour) k White
    by k h h' = grind (arith, common_steps)
