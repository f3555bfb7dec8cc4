-- What `salvage` leaves on the output where it writes a file.
use Rattle.std.proofs.Common.{◌≡◌, ℕ, List, Option, Some}
use Rattle.std.specs.Prelude.{IfSome}
use Rattle.fax_walk.specs.declared.options.Options.{Options}
use Rattle.fax_tool.specs.declared.refusal.Refusal.{Refusal}
use Rattle.fax_tool.specs.declared.args.Command.TheVariants.{SalvageFile}
use Rattle.fax_tool.specs.declared.commands.salvage_file.SalvagedOutput.{SalvagedOutput}
use Rattle.fax_tool.specs.Run.{Counts, IsRead}
use Rattle.fax_tool.specs.SalvageText.{IsSalvageFileText}
use Rattle.fax_tool.specs.Streams.{input_after, output_after}
use Rattle.fax_tool.specs.code.Outcome.{IsStopped}
use Rattle.fax_tool.specs.code.Salvaging.{said_of}
use Rattle.fax_tool.specs.code.Transfers.{IsGivenInPart}
use Rattle.fax_tool.proofs.CommandLemmas.{text_stopped}

abbrev salvaged_of : Option (List ℕ) → Option (List ℕ) → SalvagedOutput
salvaged_of output line = record { output = output; line = line }

module _ (bytes : Option (List ℕ)) (file : List ℕ) (same : IfSome bytes (λ b. file ≡ b)) (taken : ℕ) (counts : Counts)
    (read : IsRead (input_after bytes taken counts)) (options : Options) (old new : Option (List ℕ)) (given : Counts)
    (line : Option (List ℕ)) where
  pub file_stopped : (output : List ℕ) → IsSalvageFileText options file (said_of (salvaged_of (Some output) line))
      → (refusal : Refusal) → IsGivenInPart old new output given refusal
      → IsStopped (SalvageFile options) refusal (input_after bytes taken counts) (output_after old new given)
  file_stopped output is refusal part =
      text_stopped (SalvageFile options) bytes taken counts file old new given
      (said_of (salvaged_of (Some output) line)) refusal same read is part
