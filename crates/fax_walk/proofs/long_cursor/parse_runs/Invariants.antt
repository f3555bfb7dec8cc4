use Rattle.std.proofs.Common.{length, ◌<◌, ◌^◌}
use Rattle.std.specs.List.{All}
use Rattle.std.specs.Str.{IsUtf8}
use Rattle.fax_walk.proofs.LongCursorLemmas.{AreRunsCut}
use Rattle.fax_walk.proofs.long_cursor.parse_runs.Given as goal

abbrev pub invariant-loop-run : goal.invariant-loop-run
invariant-loop-run l = record {
  cut : AreRunsCut l.text l.runs.items l.rest;
  utf8 : IsUtf8 l.rest;
  short : All (λ run. run < 2 ^ 32) l.runs.items;
}

abbrev pub decreases-loop-run : goal.decreases-loop-run
decreases-loop-run l = length l.rest
