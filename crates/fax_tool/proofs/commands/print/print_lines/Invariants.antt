use Rattle.std.proofs.Common.{◌≡◌}
use Rattle.fax_bits.specs.laws.Codes.{IsOne}
use Rattle.fax_tool.specs.code.Transfers.{counted}
use Rattle.fax_tool.proofs.PrintLemmas.{PrintsSome}
use Rattle.fax_tool.proofs.commands.print.print_lines.Given as goal

abbrev pub invariant-loop-remaining : goal.invariant-loop-remaining
invariant-loop-remaining g l = record {
  one : IsOne (g.L.Lines.tail l.initial.lines);
  some : PrintsSome (g.L.Lines.tail l.initial.lines) (g.L.Lines.tail l.lines) (g.L.Lines.yielded l.lines)
      l.initial.remaining
      l.remaining
      (g.W.Sink.written l.initial.out) (g.W.Sink.written l.out) l.text;
  origin : g.L.Lines.origin l.lines ≡ g.L.Lines.origin l.initial.lines;
  counts : g.W.Sink.counts l.out ≡ counted l.interruptions;
}

abbrev pub decreases-loop-remaining : goal.decreases-loop-remaining
decreases-loop-remaining g l = g.L.Lines.remaining l.lines
