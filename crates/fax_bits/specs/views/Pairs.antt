-- A white run and the black one after it, as they are read, and any two runs as they are written.
use Rattle.std.specs.Prelude.{◌≡◌, ℕ, ◌<◌, Bool, List, ◌++◌}
use Rattle.fax_bits.specs.declared.mode_codes.ModeCode.TheVariants.{Horizontal}
use Rattle.fax_bits.specs.declared.pairs.RunPair.{RunPair}
use Rattle.fax_bits.specs.Bits.{Colour, White, Black}
use Rattle.fax_bits.specs.Codes.{IsRun, Decodes}
use Rattle.fax_bits.specs.Tables.{modes}
use Rattle.fax_bits.specs.Written.{run_bits}

-- the bits begin with a white run and a black one, both as they are written and with pels, and the
-- rest follows them (T.4, section 4.1.1)
pub record IsPairRead (b : List Bool) (pair : RunPair) (rest : List Bool) : Type 0 where
  pub middle : List Bool
  pub white : IsRun White b pair.white middle
  pub black : IsRun Black middle pair.black rest
  pub white_written : b ≡ run_bits White pair.white ++ middle
  pub black_written : middle ≡ run_bits Black pair.black ++ rest
  pub white_some : 0 < pair.white
  pub black_some : 0 < pair.black

-- the bits begin with the code of horizontal mode and then with such a pair (T.4, section
-- 4.2.1.3.2)
pub record IsHorizontalPairRead (b : List Bool) (pair : RunPair) (rest : List Bool) : Type 0 where
  pub runs : List Bool
  pub mode : Decodes modes b Horizontal runs
  pub pair_read : IsPairRead runs pair rest

-- the bits of a run of a colour, and of a run of the other colour after it (T.4, section 4.1.1)
abbrev pub pair_bits : Colour → ℕ → ℕ → List Bool
pair_bits White first second = run_bits White first ++ run_bits Black second
pair_bits Black first second = run_bits Black first ++ run_bits White second
