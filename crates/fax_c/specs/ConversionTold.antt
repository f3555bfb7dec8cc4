-- What a conversion says. A definition without a citation is this project's profile.
use Rattle.std.specs.Prelude.{◌≡◌, ℕ, ◌⊎◌, nat_le, if◌then◌else◌, List, [], length, unwrap_or}
use Rattle.fax_walk.specs.declared.options.ConvertFault.{ConvertFault}
use Rattle.fax_walk.specs.declared.options.ConvertFault.TheVariants as Refused
use Rattle.fax_walk.specs.declared.options.Options.{Options}
use Rattle.fax_walk.specs.Converted.{IsConverted, IsNotConverted}
use Rattle.fax_walk.specs.SalvagedFile.{IsSalvagedSource, IsSalvagedTo, IsSalvagedTooLarge}
use Rattle.fax_c.specs.declared.file_conversion.FaxConverted.{FaxConverted}
use Rattle.fax_c.specs.declared.file_conversion.FaxOptions.{FaxOptions}
use Rattle.fax_c.specs.declared.faults.FaxFault.{FaxFault}
use Rattle.fax_c.specs.FaultNumbers.{output_too_large_number, pbm_fault_number}
use Rattle.fax_c.specs.FaultNumbers.{unknown_input_number}
use Rattle.fax_c.specs.Numbers.{bool_number, order_number, target_number}
use Rattle.fax_c.specs.Texts.{IsTextPut}
use Rattle.fax_c.specs.Told.{fault_of_cause, no_fault}

-- these numbers are these options
pub record AreOptionsGiven (given : FaxOptions) (options : Options) : Type 0 where
  pub target : given.target ≡ target_number options.target
  pub order : given.order ≡ order_number options.order
  pub k : given.k ≡ options.k
  pub strip : given.strip ≡ unwrap_or options.strip 0
  pub aligned : given.aligned ≡ bool_number options.aligned

-- a fault without a place
abbrev pub fault_of_number : ℕ → FaxFault
fault_of_number number = record { number = number; tag = 0; page = 0; row = 0 }

-- no output, and no fault
abbrev pub no_output : FaxConverted
no_output = record { len = 0; image = 0; fault = no_fault }

-- why a file is not converted
abbrev pub refusal_of : ConvertFault → FaxConverted
refusal_of Refused.UnknownInput =
    record { len = 0; image = 0; fault = fault_of_number unknown_input_number }
refusal_of (Refused.Pbm image fault) =
    record { len = 0; image = image; fault = fault_of_number (pbm_fault_number fault) }
refusal_of (Refused.Source page row cause) =
    record { len = 0; image = 0; fault = fault_of_cause page row cause }
refusal_of Refused.OutputTooLarge =
    record { len = 0; image = 0; fault = fault_of_number output_too_large_number }
refusal_of Refused.Memory = no_output

-- the output is written where it has room, which the status says, and its length is reported
abbrev pub IsOutputTold : List ℕ → List ℕ → List ℕ → FaxConverted → ℕ → Type 0
IsOutputTold output old new converted status =
    (converted ≡ record { len = length output; image = 0; fault = no_fault })
    × IsTextPut output old (length output) new
    × (status ≡ (if nat_le (length output) (length old) then 0 else 5))

-- the numbers are no options, and nothing is written; or this is so of the options that they are
abbrev pub TellsWithOptions : FaxOptions → List ℕ → List ℕ → FaxConverted → ℕ → (Options → Type 0)
    → Type 0
TellsWithOptions given old new converted status told =
    ((status ≡ 7) × ((options : Options) → AreOptionsGiven given options → ⊥)
    × (converted ≡ no_output) × (new ≡ old))
    ⊎ ((options : Options) × AreOptionsGiven given options × told options)

-- the file is converted as the options say, or refused, or memory was refused; where there is no
-- output, nothing is written
abbrev pub TellsConversion : List ℕ → FaxOptions → List ℕ → List ℕ → FaxConverted → ℕ → Type 0
TellsConversion file given old new converted status =
    TellsWithOptions given old new converted status (λ options.
    ((output : List ℕ) × IsConverted file options output
    × IsOutputTold output old new converted status)
    ⊎ ((status ≡ 2) × ((fault : ConvertFault) × IsNotConverted file options fault
    × (converted ≡ refusal_of fault)) × (new ≡ old))
    ⊎ ((status ≡ 4) × (converted ≡ no_output) × (new ≡ old)))

-- the pages of a damaged file are written as the options say; or none has a form; or they would be
-- too large; or memory was refused. Where there is no output, nothing is written
abbrev pub TellsSalvagedFile : List ℕ → FaxOptions → List ℕ → List ℕ → FaxConverted → ℕ → Type 0
TellsSalvagedFile file given old new converted status =
    TellsWithOptions given old new converted status (λ options.
    ((output : List ℕ) × IsSalvagedTo file options output
    × IsOutputTold output old new converted status)
    ⊎ ((status ≡ 1) × IsSalvagedSource file [] × (converted ≡ no_output) × (new ≡ old))
    ⊎ ((status ≡ 2) × IsSalvagedTooLarge file options
    × (converted ≡ refusal_of Refused.OutputTooLarge) × (new ≡ old))
    ⊎ ((status ≡ 4) × (converted ≡ no_output) × (new ≡ old)))
