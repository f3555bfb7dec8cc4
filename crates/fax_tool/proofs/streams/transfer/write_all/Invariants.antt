use Rattle.std.proofs.Common.{◌≡◌, ◌+◌, ◌-◌, length}
use Rattle.fax_tool.specs.Run.{most_interrupted}
use Rattle.fax_tool.specs.code.Transfers.{counted}
use Rattle.fax_tool.proofs.TransferLemmas.{IsPartWritten}
use Rattle.fax_tool.proofs.streams.transfer.write_all.Given as goal

abbrev pub invariant-loop-rest : goal.invariant-loop-rest
invariant-loop-rest g l = record {
  part : IsPartWritten (g.W.Sink.written l.initial.out) (g.W.Sink.written l.out) l.bytes l.rest;
  counts : g.W.Sink.counts l.out ≡ counted l.interruptions;
}

abbrev pub decreases-loop-rest : goal.decreases-loop-rest
decreases-loop-rest g l = length l.rest + (most_interrupted - l.interruptions)
