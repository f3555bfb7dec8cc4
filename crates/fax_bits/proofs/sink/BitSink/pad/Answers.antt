use Rattle.std.proofs.Common.{arith}
use Rattle.fax_bits.proofs.SinkLemmas.{padded-lt, pads}
use Rattle.fax_bits.proofs.sink.BitSink.pad.Goals as goal

pub invariant_of-self : goal.invariant_of-self
invariant_of-self c = grind (arith, padded-lt)

pub returns : goal.returns
returns c = grind (arith, pads)
