-- How a command ended.
use Rattle.std.specs.Prelude.{◌≡◌, ◌≢◌, ℕ, ◌⊎◌, List, [], Option, Some, None, IfSome, Result, Ok}
use Rattle.std.specs.Prelude.{Err, ◌<◌, codes}
use Rattle.std.specs.Io.KnownBytes.{Appends}
use Rattle.fax_walk.specs.declared.end.End.{End}
use Rattle.fax_walk.specs.declared.end.End.TheVariants.{EndOfPages, Fault, Outside}
use Rattle.fax_walk.specs.declared.options.ConvertFault.{ConvertFault}
use Rattle.fax_walk.specs.declared.options.ConvertFault.TheVariants.{Memory as NoRoom}
use Rattle.fax_files.specs.Directory.{max_file}
use Rattle.fax_tool.specs.declared.refusal.Refusal.{Refusal}
use Rattle.fax_tool.specs.declared.refusal.Refusal.TheVariants.{Memory, Read, Write}
use Rattle.fax_tool.specs.declared.args.Command.{Command}
use Rattle.fax_tool.specs.Text.{Printed, fault_line}
use Rattle.fax_tool.specs.ReportText.{convert_fault_line}
use Rattle.fax_tool.specs.Run.{Counts, Input, Output, HasFailed, HasReason, HasWorked, IsRead}
use Rattle.fax_tool.specs.Run.{IsTextAfterMemory, IsTextOf, LeavesText, refusal_line}

-- this is the line of the fault for which a file is not converted
abbrev pub IsLineOf : ConvertFault → List ℕ → Type 0
IsLineOf fault line = (fault ≢ NoRoom) × (line ≡ convert_fault_line fault)

-- the error line of the end that lines had; at a limit there is none
abbrev pub end_line : Option End → Option (List ℕ)
end_line None = None
end_line (Some EndOfPages) = None
end_line (Some (Fault page row cause)) = Some (fault_line page row cause)
end_line (Some Outside) = Some (codes "fault cursor: CursorOutside\n")

-- what is said of a line, if there is one
abbrev pub error_of : Option (List ℕ) → List ℕ
error_of None = []
error_of (Some line) = line

-- the status of a run that says so
abbrev pub status_of : Option (List ℕ) → ℕ
status_of None = 0
status_of (Some line) = 1

-- such a text is written, but for its error line, which is this, if there is one
pub record WritesOutput (is_text : Printed → Type 0) (output : Output)
    (line : Option (List ℕ)) : Type 0 where
  pub printed : Printed
  pub is : is_text printed
  pub output_is : Appends output.before output.after printed.output
  pub error_is : printed.error ≡ error_of line
  pub status_is : printed.status ≡ status_of line

-- a command was not refused
pub record IsDone (command : Command) (input : Input) (output : Output)
    (line : Option (List ℕ)) : Type 0 where
  pub read : IsRead input
  pub written : HasWorked output.counts
  pub writes : (file : List ℕ) × IfSome input.bytes (λ bytes. file ≡ bytes)
      × WritesOutput (IsTextOf command file) output line

-- a command was refused, for a reason, and has left what it has to
pub record IsStopped (command : Command) (refusal : Refusal) (input : Input)
    (output : Output) : Type 0 where
  pub reason : HasReason refusal input output
  pub leaves : (file : List ℕ) × IfSome input.bytes (λ bytes. file ≡ bytes)
      × LeavesText (IsTextOf command file) (IsTextAfterMemory command file) refusal output

-- the input was opened, but failed, or is too long
abbrev pub IsUnread : Input → Type 0
IsUnread input =
    (input.counts.unopened ≡ 0) × (HasFailed input.counts ⊎ (max_file < input.taken))

-- reading was refused for this reason
abbrev pub HasReadReason : Refusal → Input → Type 0
HasReadReason Memory input = IsRead input
HasReadReason Read input = IsUnread input
HasReadReason Write input = ⊥

-- printing was refused for this reason
abbrev pub HasPrintReason : Refusal → Counts → Type 0
HasPrintReason Memory counts = HasWorked counts
HasPrintReason Read counts = ⊥
HasPrintReason Write counts = HasFailed counts

-- such a text is left, or that which is written where memory is refused, for this reason
pub record StopsPrinting (is : Printed → Type 0) (after_memory : List ℕ → Type 0)
    (refusal : Refusal) (output : Output) : Type 0 where
  pub reason : HasPrintReason refusal output.counts
  pub leaves : LeavesText is after_memory refusal output

-- nothing was to be written but this where memory is refused
abbrev pub StopsWith : List ℕ → Refusal → Output → Type 0
StopsWith text = StopsPrinting (λ printed. ⊥) (λ output. output ≡ text)

-- the input was not read, and this was to be written where memory is refused
pub record StopsAtBeginning (text : List ℕ) (refusal : Refusal) (input : Input)
    (output : Output) : Type 0 where
  pub reason : HasReason refusal input output
  pub leaves : LeavesText (λ printed. ⊥) (λ output. output ≡ text) refusal output

-- a line was said, and the status is the one that goes with it, or the error stream failed
abbrev pub IsSaid : Output → List ℕ → ℕ → ℕ → Type 0
IsSaid error line status result =
    (HasWorked error.counts × Appends error.before error.after line × (result ≡ status))
    ⊎ (HasFailed error.counts × (result ≡ 3))

-- what is said on the error stream of the way a command ended, with the status
abbrev pub IsReported : Result (Option (List ℕ)) Refusal → Output → ℕ → Type 0
IsReported (Ok line) error status = IsSaid error (error_of line) (status_of line) status
IsReported (Err refusal) error status =
    (HasFailed error.counts ⊎ Appends error.before error.after (refusal_line refusal))
    × (status ≡ 3)
