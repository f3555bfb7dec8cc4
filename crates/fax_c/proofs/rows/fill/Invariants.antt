use Rattle.std.proofs.Common.{◌≡◌, ◌-◌, length}
use Rattle.fax_walk.specs.laws.Tails.{BeginningsHaveOneTail}
use Rattle.fax_c.specs.views.Places.{KeepsRuns}
use Rattle.fax_c.proofs.RowsWrittenLemmas.{AreRowsWritten}
use Rattle.fax_c.proofs.rows.fill.Given as goal

abbrev pub invariant-loop-count : goal.invariant-loop-count
invariant-loop-count g l = record {
  law : BeginningsHaveOneTail;
  so_far : AreRowsWritten g.F.RowFormat.numbers l.initial.walk.file l.initial.walk.origin l.walk l.count l.used
      l.initial.rows l.rows l.initial.out l.out;
  kept : KeepsRuns l.initial.runs l.runs;
  place : l.count ≡ 0 → l.place ≡ l.initial.place;
  runs : l.count ≡ 0 → l.runs ≡ l.initial.runs;
}

abbrev pub decreases-loop-count : goal.decreases-loop-count
decreases-loop-count g l = length l.initial.rows - l.count
