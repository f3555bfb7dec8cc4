-- How a row is read, in one and in two dimensions: its pels and the bits that remain, or the fault
-- (T.4, sections 4.1.1 and 4.2.1.3.1 to 4.2.1.3.4; T.6, sections 2.2.2 to 2.2.5; the faults are
-- this project's profile). Each code takes one bit at least, so that the steps come to an end.
use Rattle.std.specs.Prelude.{ℕ, ◌+◌, ◌-◌, nat_lt, nat_eq, ℤ, pos, ◌+ℤ◌, nat_abs, int_lt, int_le}
use Rattle.std.specs.Prelude.{Bool, false, ◌&&◌, if◌then◌else◌, List, [], ◌++◌, length}
use Rattle.std.specs.Prelude.{replicate, Option, Some, None}
use Rattle.fax_bits.specs.Codes.{read_code}
use Rattle.fax_bits.specs.Reading.{Read, read, failed, ◌>>=◌, map_fault}
use Rattle.fax_bits.specs.Reading.{Step, onward, done, stopped, step_by, steps}
use Rattle.fax_bits.specs.Tables.{run_table, modes}
use Rattle.fax_bits.specs.declared.codes.CodeEntry.{CodeEntry}
use Rattle.fax_bits.specs.declared.codes.CodeFault.{CodeFault}
use Rattle.fax_bits.specs.declared.codes.CodeFault.TheVariants as code_fault
use Rattle.fax_bits.specs.declared.mode_codes.ModeCode.TheVariants as mode
use Rattle.fax_bits.specs.declared.run_codes.RunCode.{RunCode}
use Rattle.fax_bits.specs.declared.run_codes.RunCode.TheVariants as run
use Rattle.fax_rows.specs.Rows.{Colour, White, ModeCode, Position, a0_number, b1, b2, beginning}
use Rattle.fax_rows.specs.Rows.{coloured_up_to, first_pel, other}
use Rattle.fax_rows.specs.declared.RowFault.{RowFault}
use Rattle.fax_rows.specs.declared.RowFault.TheVariants.{DataEnds, BadCode, Extension, RunTooLong}
use Rattle.fax_rows.specs.declared.RowFault.TheVariants.{OutOfRow}

-- a row's name for the fault of a code
abbrev pub row_fault : CodeFault → RowFault
row_fault code_fault.DataEnds = DataEnds
row_fault code_fault.BadCode = BadCode

-- a code of a table, or the row's fault
abbrev pub row_code : {M : Type 0} → List (CodeEntry M) → List Bool → Read M RowFault
row_code table b = map_fault row_fault (read_code table b)

-- a step of a run to this pel, which is not after the row's end
abbrev pub within : ℕ → ℕ → Step ℕ ℕ RowFault → Step ℕ ℕ RowFault
within width to step = if nat_lt width to then stopped RunTooLong else step

-- a code of a run at a pel: a make-up code continues, a terminating code is the last one
abbrev pub by_run_code : ℕ → ℕ → RunCode → List Bool → Step ℕ ℕ RowFault
by_run_code width from (run.Terminating n) rest = within width (from + n) (done (from + n) rest)
by_run_code width from (run.MakeUp n) rest = within width (from + n) (onward (from + n) rest)
by_run_code width from run.Extension rest = stopped Extension

abbrev pub run_step : Colour → ℕ → ℕ → List Bool → Step ℕ ℕ RowFault
run_step colour width from b = step_by (by_run_code width from) (row_code (run_table colour) b)

-- a run from a pel on: the pel after it (T.4, section 4.1.1; that there may be any number of
-- make-up codes, in any order, is this project's profile)
abbrev pub read_run : Colour → ℕ → ℕ → List Bool → Read ℕ RowFault
read_run colour width from b = steps DataEnds (run_step colour width) from b

-- how far a row in one-dimensional coding is read: its pels up to there, and the colour of the run
-- that is next
pub record Runs : Type 0 where
  pub pels : List Colour
  pub colour : Colour

-- runs of alternating colours, the first one white, up to the row's end
abbrev pub after_run : Runs → ℕ → List Bool → Step Runs (List Colour) RowFault
after_run at to rest = onward (record {
  pels = at.pels ++ replicate (to - length at.pels) at.colour;
  colour = other at.colour;
}) rest

abbrev pub row_step : ℕ → Runs → List Bool → Step Runs (List Colour) RowFault
row_step width at b =
    if nat_eq (length at.pels) width then done at.pels b
    else step_by (after_run at) (read_run at.colour width (length at.pels) b)

-- the runs from there on
abbrev pub read_runs : ℕ → Runs → List Bool → Read (List Colour) RowFault
read_runs width at b = steps DataEnds (row_step width) at b

-- a row in one-dimensional coding (T.4, section 4.1.1)
abbrev pub read_one_dimensional : ℕ → List Bool → Read (List Colour) RowFault
read_one_dimensional width b = read_runs width (record { pels = []; colour = White }) b

-- a place that is right of a0 and not after the row's end
abbrev pub is_in_row : List Colour → Position → ℤ → Bool
is_in_row reference at a1 =
    int_lt (a0_number at) a1 && int_le a1 (pos (length reference))

-- vertical mode, with a1 at this place, where the colour changes (T.4, section 4.2.1.3.2)
abbrev pub vertical_step : List Colour → Position → ℤ → List Bool → Read Position RowFault
vertical_step reference at a1 rest =
    if is_in_row reference at a1
    then read (record (coloured_up_to at (nat_abs a1)) { colour = other at.colour }) rest
    else failed OutOfRow

-- the position after a run a0a1 of a0's colour and a run a1a2 of the other
abbrev pub coloured_twice : Position → ℕ → ℕ → Position
coloured_twice at a1 a2 = record {
  a0 = Some a2;
  colour = at.colour;
  pels = at.pels ++ replicate (a1 - first_pel at) at.colour
      ++ replicate (a2 - a1) (other at.colour);
}

-- horizontal mode: a run a0a1 and a run a1a2; the colour stays (T.4, section 4.2.1.3.2)
abbrev pub horizontal : List Colour → Position → List Bool → Read Position RowFault
horizontal reference at b =
    read_run at.colour (length reference) (first_pel at) b
    >>= λ a1 middle. read_run (other at.colour) (length reference) a1 middle
    >>= λ a2 rest. read (coloured_twice at a1 a2) rest

-- what a mode does: the position after it (T.4, section 4.2.1.3.2; that pass mode may have b2 at
-- the width is this project's profile)
abbrev pub by_mode : List Colour → Position → ModeCode → List Bool → Read Position RowFault
by_mode reference at mode.Pass rest =
    read (coloured_up_to at (b2 reference at.a0 at.colour)) rest
by_mode reference at (mode.Vertical d) rest =
    vertical_step reference at (pos (b1 reference at.a0 at.colour) +ℤ d) rest
by_mode reference at mode.Horizontal b = horizontal reference at b
by_mode reference at mode.Extension b = failed Extension

-- a coding step: a mode, and what it does (T.4, section 4.2.1.3.3; that any mode is taken wherever
-- it applies is this project's profile)
abbrev pub read_step : List Colour → Position → List Bool → Read Position RowFault
read_step reference at b = row_code modes b >>= by_mode reference at

-- a0 is at the row's end
abbrev pub is_ended : List Colour → Option ℕ → Bool
is_ended reference None = false
is_ended reference (Some a0) = nat_eq a0 (length reference)

-- coding steps up to the row's end (T.4, section 4.2.1.3.4)
abbrev pub coding_step : List Colour → Position → List Bool → Step Position (List Colour) RowFault
coding_step reference at b =
    if is_ended reference at.a0 then done at.pels b else step_by onward (read_step reference at b)

-- the steps from there on
abbrev pub read_steps : List Colour → Position → List Bool → Read (List Colour) RowFault
read_steps reference at b = steps DataEnds (coding_step reference) at b

-- a row in two-dimensional coding over its reference row (T.4, section 4.2.1.3; T.6, section 2.2)
abbrev pub read_two_dimensional : List Colour → List Bool → Read (List Colour) RowFault
read_two_dimensional reference b = read_steps reference beginning b
