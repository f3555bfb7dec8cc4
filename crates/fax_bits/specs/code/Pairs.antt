-- A white run and the black one after it, looked up at once.
use Rattle.std.specs.Prelude.{◌≡◌, ℕ, ◌<◌, Bool, List, ◌++◌}
use Rattle.fax_bits.specs.declared.pairs.RunPair.{RunPair}
use Rattle.fax_bits.specs.Bits.{White, Black, StartsWith, code_bits}
use Rattle.fax_bits.specs.Written.{run_bits}

-- the bits begin with those of the two runs, which take so many; each run has pels, and is one
-- terminating code (T.4, section 4.1.1)
pub record IsPairAhead (b : List Bool) (len : ℕ) (pair : RunPair) : Type 0 where
  pub white : 0 < pair.white
  pub black : 0 < pair.black
  pub short_white : pair.white < 64
  pub short_black : pair.black < 64
  pub some : 0 < len
  pub code : ℕ
  pub ahead : StartsWith b (code_bits len code)
  pub spelled : code_bits len code ≡ run_bits White pair.white ++ run_bits Black pair.black
