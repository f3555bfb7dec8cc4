-- Codes as they are written (T.4, sections 4.1.1 and 4.2.1.3.2).
use Rattle.std.specs.Prelude.{ℕ, ◌*◌, ◌/◌, ◌%◌, ◌==◌, Bool, true, false, if◌then◌else◌, List}
use Rattle.std.specs.Prelude.{[], ◌∷◌, ◌++◌, flat_map, replicate}
use Rattle.std.specs.Ordering.{int_eq}
use Rattle.fax_bits.specs.Bits.{Colour}
use Rattle.fax_bits.specs.Tables.{CodeEntry, ModeCode, RunCode, run_table, modes}
use Rattle.fax_bits.specs.declared.mode_codes.ModeCode.TheVariants as mode
use Rattle.fax_bits.specs.declared.run_codes.RunCode.TheVariants.{Terminating, MakeUp, Extension}
use Rattle.fax_bits.specs.Codes.{bits_of}

-- the two run codes mean the same
abbrev pub same_run_code : RunCode → RunCode → Bool
same_run_code (Terminating n) (Terminating m) = n == m
same_run_code (MakeUp n) (MakeUp m) = n == m
same_run_code Extension Extension = true
same_run_code _ _ = false

-- the two modes are one
abbrev pub same_mode : ModeCode → ModeCode → Bool
same_mode mode.Pass mode.Pass = true
same_mode mode.Horizontal mode.Horizontal = true
same_mode (mode.Vertical d) (mode.Vertical e) = int_eq d e
same_mode mode.Extension mode.Extension = true
same_mode _ _ = false

-- the bits of the first code in the table that has a meaning which passes the test
abbrev pub code_for : {M : Type 0} → (M → Bool) → List (CodeEntry M) → List Bool
code_for test [] = []
code_for test (entry ∷ table) = if test entry.meaning then bits_of entry else code_for test table

-- the bits of a run code, and of a mode
unfoldable pub run_code_bits : Colour → RunCode → List Bool
run_code_bits colour code = code_for (same_run_code code) (run_table colour)

unfoldable pub mode_bits : ModeCode → List Bool
mode_bits m = code_for (same_mode m) modes

-- the codes of a run as it is written: 2560 as often as it fits, at most one other make-up code, of
-- so many steps of 64 pels, and a terminating code
abbrev pub run_codes : ℕ → List RunCode
run_codes n =
    let steps = n % 2560 / 64 in
    replicate (n / 2560) (MakeUp 2560) ++ (if steps == 0 then [] else MakeUp (64 * steps) ∷ [])
    ++ Terminating (n % 64) ∷ []

-- the bits of a run as it is written
unfoldable pub run_bits : Colour → ℕ → List Bool
run_bits colour n = flat_map (run_code_bits colour) (run_codes n)
