-- Codes by their place in a table.
use Rattle.std.specs.Prelude.{ℕ, zero, suc, Bool, List, [], ◌∷◌}
use Rattle.fax_bits.specs.declared.codes.CodeEntry.{CodeEntry}
use Rattle.fax_bits.specs.Codes.{bits_of}
use Rattle.std.specs.Prelude.{ℕ, ◌*◌, ◌-◌, List, [], ◌∷◌}
use Rattle.std.specs.Prelude.{◌==◌, nat_lt, if◌then◌else◌}
use Rattle.fax_bits.specs.declared.run_codes.RunCode.{RunCode}
use Rattle.fax_bits.specs.declared.run_codes.RunCode.TheVariants.{Terminating, MakeUp, Extension}

-- the bits of the code at a place of the table (T.4, tables 2, 3a, 3b and 4)
abbrev pub bits_at : {M : Type 0} → List (CodeEntry M) → ℕ → List Bool
bits_at [] place = []
bits_at (entry ∷ table) zero = bits_of entry
bits_at (entry ∷ table) (suc place) = bits_at table place

-- what the code at a place of a run table means (T.4, tables 2, 3a and 3b)
abbrev pub run_meaning : ℕ → RunCode
run_meaning i =
    if nat_lt i 64 then Terminating i
    else (if nat_lt i 104 then MakeUp (64 * (i - 63)) else Extension)

-- the make-up code of so many steps of 64 pels, if there are any
abbrev pub one_make_up : ℕ → List RunCode
one_make_up steps = if steps == 0 then [] else MakeUp (64 * steps) ∷ []
