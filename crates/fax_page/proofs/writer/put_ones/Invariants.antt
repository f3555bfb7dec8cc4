use Rattle.std.proofs.Common.{◌*◌, replicate, true}
use Rattle.fax_bits.specs.views.Sink.{Appends}
use Rattle.fax_page.proofs.writer.put_ones.Given as goal

abbrev pub invariant-loop : goal.invariant-loop
invariant-loop l = Appends l.fn.sink (replicate (32 * l.counter) true) l.sink
