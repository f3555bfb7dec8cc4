use Rattle.std.proofs.Common.{◌≡◌, ◌+◌, ◌≤◌, length}
use Rattle.std.specs.Prelude.{IsTrue}
use Rattle.fax_rows.specs.ReadRows.{read_run}
use Rattle.fax_rows.proofs.RunLemmas.{AreChosen, AreLongestMakeUp}
use Rattle.fax_rows.proofs.runs.read_run.Given as goal

abbrev pub invariant-loop-more : goal.invariant-loop-more
invariant-loop-more l = record {
  same : read_run l.colour l.width l.from l.initial.source.remaining
      ≡ read_run l.colour l.width (l.from + l.pels) l.source.remaining;
  chosen : IsTrue l.is_canonical → AreChosen l.colour l.initial.source.remaining l.pels l.source.remaining;
  longest : IsTrue l.are_longest → AreLongestMakeUp l.colour l.initial.source.remaining l.pels l.source.remaining;
  within : l.from + l.pels ≤ l.width;
  no_longer : length l.source.remaining ≤ length l.initial.source.remaining;
  same_end : l.source.place + length l.source.remaining ≡ l.initial.source.place + length l.initial.source.remaining;
}

abbrev pub decreases-loop-more : goal.decreases-loop-more
decreases-loop-more l = length l.source.remaining
