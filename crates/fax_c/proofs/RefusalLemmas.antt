-- Why a file is not converted, as it is reported.
use Rattle.std.proofs.Common.{arith, ◌≡◌, ◌≢◌, ℕ, ◌⊎◌, List}
use Rattle.fax_walk.specs.declared.options.ConvertFault.{ConvertFault}
use Rattle.fax_walk.specs.declared.options.ConvertFault.TheVariants as Refused
use Rattle.fax_walk.specs.declared.options.Options.{Options}
use Rattle.fax_walk.specs.Converted.{IsNotConverted}
use Rattle.fax_c.specs.ConversionTold.{no_output, refusal_of}
use Rattle.fax_c.specs.code.CallerNumbers.{refusal_status}

-- a fault is reported, or memory was refused
abbrev pub IsRefusalTold : List ℕ → Options → ConvertFault → Type 0
IsRefusalTold file options fault =
    ((refusal_status fault ≡ 2) × IsNotConverted file options fault)
    ⊎ ((refusal_status fault ≡ 4) × (refusal_of fault ≡ no_output))

pub refusal : (file : List ℕ) (options : Options) (fault : ConvertFault)
    → (fault ≢ Refused.Memory → IsNotConverted file options fault)
    → IsRefusalTold file options fault
refusal file options fault why = grind arith
