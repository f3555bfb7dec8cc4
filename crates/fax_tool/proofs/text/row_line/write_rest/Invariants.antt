use Rattle.std.proofs.Common.{◌≡◌, ◌+◌, ◌*◌, ◌≤◌, ◌++◌, take, length}
use Rattle.std.specs.Prelude.{flat_map}
use Rattle.fax_tool.specs.Text.{and_number}
use Rattle.fax_tool.proofs.text.row_line.write_rest.Given as goal

-- what is written and what is expected are all runs, after what stood there
abbrev pub invariant-loop-run : goal.invariant-loop-run
invariant-loop-run l = record {
  text : take l.end l.bytes ++ flat_map and_number l.runs ≡ take l.at l.initial.bytes ++ flat_map and_number l.fn.runs;
  room : l.end + 6 * length l.runs ≤ l.at + 6 * length l.fn.runs;
}

abbrev pub decreases-loop-run : goal.decreases-loop-run
decreases-loop-run l = length l.runs
