use Rattle.std.proofs.Common.{arith}
use Rattle.fax_bits.proofs.SinkLemmas.{length-sink}
use Rattle.fax_bits.proofs.sink.BitSink.len.Goals as goal

pub returns : goal.returns
returns c = omega (arith, length-sink _ _ _ _ _ c.self.view_is, c.self.inside.bytes.ok.0)
