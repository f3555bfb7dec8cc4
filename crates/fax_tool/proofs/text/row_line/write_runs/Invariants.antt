use Rattle.std.proofs.Common.{◌≡◌, ◌+◌, ◌*◌, ◌≤◌, ◌++◌, take, length}
use Rattle.std.specs.Prelude.{flat_map}
use Rattle.fax_rows.specs.Rows.{runs_of}
use Rattle.fax_tool.specs.Text.{and_number}
use Rattle.fax_tool.proofs.text.row_line.write_runs.Given as goal

-- what is written and what is expected are all runs, after what stood there
abbrev pub invariant-loop-eight : goal.invariant-loop-eight
invariant-loop-eight l = record {
  text : take l.end l.bytes ++ flat_map and_number l.runs ≡ take l.at l.initial.bytes
      ++ flat_map and_number (runs_of l.row);
  room : l.end + 6 * length l.runs ≤ l.at + 6 * length (runs_of l.row);
}

abbrev pub decreases-loop-eight : goal.decreases-loop-eight
decreases-loop-eight l = length l.runs
