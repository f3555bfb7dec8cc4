-- The first bits of a word of 64.
use Rattle.std.specs.Prelude.{ℕ, ◌-◌, ◌/◌, ◌^◌, Bool, List}
use Rattle.fax_bits.specs.Bits.{code_bits}

-- the `count` highest bits of a word of 64, the highest of them first
abbrev pub first_bits : ℕ → ℕ → List Bool
first_bits count word = code_bits count (word / 2 ^ (64 - count))
