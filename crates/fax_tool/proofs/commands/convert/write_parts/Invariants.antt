use Rattle.std.proofs.Common.{◌≡◌, ℕ, List, ◌++◌, length}
use Rattle.std.specs.Io.KnownBytes.{Appends}
use Rattle.fax_tool.specs.code.Transfers.{counted}
use Rattle.fax_tool.proofs.commands.convert.write_parts.Given as goal

-- the parts that were returned are written
abbrev pub invariant-loop-part : goal.invariant-loop-part
invariant-loop-part g l = record {
  done : List ℕ;
  all : l.fn.output ≡ done ++ l.remaining;
  given : Appends (g.W.Sink.written l.initial.out) (g.W.Sink.written l.out) done;
  counts : g.W.Sink.counts l.out ≡ counted l.interruptions;
}

abbrev pub decreases-loop-part : goal.decreases-loop-part
decreases-loop-part g l = length l.remaining
