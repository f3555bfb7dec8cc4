use Rattle.std.proofs.Common.{◌≡◌}
use Rattle.fax_tool.specs.code.Salvaging.{IsOneList}
use Rattle.fax_tool.specs.code.Transfers.{counted}
use Rattle.fax_tool.proofs.SalvageLineLemmas.{PrintsSome}
use Rattle.fax_tool.proofs.commands.salvage_lines.print_remains.Given as goal

abbrev pub invariant-loop-text : goal.invariant-loop-text
invariant-loop-text g l = record {
  one : IsOneList (g.R.SalvageLines.are l.initial.remains);
  some : PrintsSome (g.R.SalvageLines.are l.initial.remains) (g.R.SalvageLines.are l.remains) (g.R.SalvageLines.yielded
      l.remains)
      (g.W.Sink.written l.initial.out) (g.W.Sink.written l.out) l.text;
  counts : g.W.Sink.counts l.out ≡ counted l.interruptions;
  well : g.R.SalvageLines.is_well l.remains → g.R.SalvageLines.is_well l.initial.remains;
}

abbrev pub decreases-loop-text : goal.decreases-loop-text
decreases-loop-text g l = g.R.SalvageLines.remaining l.remains
