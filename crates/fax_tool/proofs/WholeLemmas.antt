-- What the commands that write a whole text leave on the output.
use Rattle.std.proofs.Common.{arith, ◌≡◌, ◌≢◌, ℕ, List, [], inl, inr, refl, sym}
use Rattle.std.specs.Prelude.{Bool, Option, Some, None, IfSome}
use Rattle.std.specs.Io.KnownBytes.{Appends}
use Rattle.std.proofs.KnownBytes.{Appends-nil}
use Rattle.fax_walk.specs.Converted.{IsConverted, IsNotConverted}
use Rattle.fax_walk.specs.Report.{IsReport}
use Rattle.fax_walk.specs.declared.checking.Report.{Report}
use Rattle.fax_walk.specs.declared.options.Options.{Options}
use Rattle.fax_walk.specs.declared.options.ConvertFault.{ConvertFault}
use Rattle.fax_walk.specs.declared.options.ConvertFault.TheVariants.{Memory as NoMemory}
use Rattle.fax_tool.specs.declared.refusal.Refusal.{Refusal}
use Rattle.fax_tool.specs.declared.args.Command.TheVariants.{Convert, Check, Version}
use Rattle.fax_tool.specs.Run.{Counts, HasWorked, IsRead}
use Rattle.fax_tool.specs.Streams.{input_after, no_faults, output_after}
use Rattle.fax_tool.specs.Text.{Printed}
use Rattle.fax_tool.specs.ReportText.{convert_fault_line, report_text}
use Rattle.fax_tool.specs.Words.{version_text}
use Rattle.fax_tool.specs.code.ReportParts.{report_output}
use Rattle.fax_tool.specs.code.Outcome.{IsDone, IsLineOf, IsStopped, error_of, status_of}
use Rattle.fax_tool.specs.code.Transfers.{IsGivenInPart}
use Rattle.fax_tool.proofs.CommandLemmas.{text_done, text_stopped}
use Rattle.fax_tool.proofs.StopLemmas.{of_some_file}

module _ (bytes : Option (List ℕ)) (file : List ℕ) (same : IfSome bytes (λ b. file ≡ b)) (taken : ℕ) (counts : Counts)
    (read : IsRead (input_after bytes taken counts)) (options : Options) (old new : Option (List ℕ))
    (given : Counts) where
  -- the text of a file that is converted
  abbrev converted_text : List ℕ → Printed
  converted_text output = record { output = output; error = []; status = 0 }

  pub conversion_stopped : (output : List ℕ) (refusal : Refusal) → IsConverted file options output
      → IsGivenInPart old new output given refusal
      → IsStopped (Convert options) refusal (input_after bytes taken counts) (output_after old new given)
  conversion_stopped output refusal is part =
      text_stopped (Convert options) bytes taken counts file old new given (converted_text output) refusal same read
      (inl (output, is, refl)) part

  pub converted : (output : List ℕ) → IsConverted file options output → Appends old new output → HasWorked given
      → IsDone (Convert options) (input_after bytes taken counts) (output_after old new given) None
  converted output is moved worked =
      text_done (Convert options) bytes taken counts file old new given (converted_text output) None same read
      (inl (output, is, refl))
      moved worked refl refl

  pub not_converted : (fault : ConvertFault) (line : List ℕ) → (fault ≢ NoMemory → IsNotConverted file options fault)
      → IsLineOf fault line
      → HasWorked given
      → IsDone (Convert options) (input_after bytes taken counts) (output_after old old given) (Some line)
  not_converted fault line refused is worked =
      text_done (Convert options) bytes taken counts file old old given
      (record { output = []; error = convert_fault_line fault; status = 1 }) (Some line) same read
      (inr (fault, refused is.0, refl)) (Appends-nil old) worked (sym is.1) refl

module _ (bytes : Option (List ℕ)) (file : List ℕ) (same : IfSome bytes (λ b. file ≡ b)) (taken : ℕ) (counts : Counts)
    (read : IsRead (input_after bytes taken counts)) (old new : Option (List ℕ)) (given : Counts) (received : Bool)
    (report : Report) (is : IsReport received file report) (text : List ℕ) (text_is : text ≡ report_output report) where
  pub check_stopped : (refusal : Refusal) → IsGivenInPart old new text given refusal
      → IsStopped (Check received) refusal (input_after bytes taken counts) (output_after old new given)
  check_stopped refusal part =
      text_stopped (Check received) bytes taken counts file old new given (report_text report) refusal same read
      (report, is, refl)
      (rw text_is at part)

  pub checked : (line : Option (List ℕ)) → Appends old new text → HasWorked given
      → (report_text report).error ≡ error_of line
      → (report_text report).status ≡ status_of line
      → IsDone (Check received) (input_after bytes taken counts) (output_after old new given) line
  checked line moved worked error status =
      text_done (Check received) bytes taken counts file old new given (report_text report) line same read (
        report,
        is,
        refl,
      )
      (rw text_is at moved)
      worked error status

-- an input from which nothing was read
pub none_read : (bytes : Option (List ℕ)) (taken : ℕ) (counts : Counts) → counts ≡ no_faults → taken ≡ 0
    → IsRead (input_after bytes taken counts)
none_read bytes taken counts none origin = grind arith

module _ (bytes : Option (List ℕ)) (taken : ℕ) (counts : Counts) (read : IsRead (input_after bytes taken counts))
    (old new : Option (List ℕ)) (given : Counts) where
  -- the version's text
  abbrev version_printed : Printed
  version_printed = record { output = version_text; error = []; status = 0 }

  -- some file that the input may be
  any_file : (file : List ℕ) × IfSome bytes (λ b. file ≡ b) × Unit {0}
  any_file = of_some_file (λ file. Unit {0}) bytes (λ file. tt)

  pub version_stopped : (refusal : Refusal) → IsGivenInPart old new version_text given refusal
      → IsStopped Version refusal (input_after bytes taken counts) (output_after old new given)
  version_stopped refusal part =
      text_stopped Version bytes taken counts any_file.0 old new given version_printed refusal any_file.1 read refl part

  pub version_said : Appends old new version_text → HasWorked given
      → IsDone Version (input_after bytes taken counts) (output_after old new given) None
  version_said moved worked =
      text_done Version bytes taken counts any_file.0 old new given version_printed None any_file.1 read refl moved
      worked refl refl
