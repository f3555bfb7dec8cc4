use Rattle.std.proofs.Common.{◌≡◌, ◌++◌, length}
use Rattle.fax_rows.specs.Rows.{runs_of}
use Rattle.fax_rows.proofs.pels.Row.runs.Given as goal

abbrev pub invariant-loop-n : goal.invariant-loop-n
invariant-loop-n l = runs_of l.self ≡ l.runs.items ++ l.ahead

abbrev pub decreases-loop-n : goal.decreases-loop-n
decreases-loop-n l = length l.ahead
