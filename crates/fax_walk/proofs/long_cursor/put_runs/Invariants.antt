use Rattle.std.proofs.Common.{◌≡◌, ◌++◌, take}
use Rattle.std.specs.String.{string_bytes}
use Rattle.std.specs.Prelude.{flat_map}
use Rattle.fax_walk.specs.code.LongText.{and_run}
use Rattle.fax_walk.proofs.long_cursor.put_runs.Given as goal

abbrev pub invariant-loop-run : goal.invariant-loop-run
invariant-loop-run l =
    string_bytes l.text ≡ string_bytes l.initial.text ++ flat_map and_run (take l.run-index l.others)
