use Rattle.std.proofs.Common.{◌≡◌, ◌-◌, ◌≤◌, replicate}
use Rattle.std.specs.Io.KnownBytes.{Appends}
use Rattle.fax_tool.specs.code.Transfers.{counted}
use Rattle.fax_tool.proofs.commands.convert.give_zeros.Given as goal

-- the zeros that are not left are written
abbrev pub invariant-loop-remaining : goal.invariant-loop-remaining
invariant-loop-remaining g l = record {
  few : l.remaining ≤ l.fn.zeros;
  given : Appends (g.W.Sink.written l.initial.out) (g.W.Sink.written l.out) (replicate (l.fn.zeros - l.remaining) 0);
  counts : g.W.Sink.counts l.out ≡ counted l.interruptions;
}

abbrev pub decreases-loop-remaining : goal.decreases-loop-remaining
decreases-loop-remaining g l = l.remaining
