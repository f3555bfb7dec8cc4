-- Bits that end within a code.
use Rattle.std.proofs.Common.{◌≡◌, ◌<◌, List, [], ◌∷◌, ◌++◌, length, length-append, ap, Bool, sym, arith}
use Rattle.fax_bits.specs.Bits.{StartsWith}

-- the bits begin the code, and are not all of it
abbrev pub IsCutBy : List Bool → List Bool → Type 0
IsCutBy code b = (missing : Bool) × (more : List Bool) × (b ++ missing ∷ more ≡ code)

pub cut_by : (code b : List Bool) → StartsWith code b → length b < length code → IsCutBy code b
cut_by code b ([], is) short = absurd (omega (arith, ap length is, length-append b []))
cut_by code b (missing ∷ more, is) short = (missing, more, sym is)
