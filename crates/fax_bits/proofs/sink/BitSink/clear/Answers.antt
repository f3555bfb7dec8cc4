use Rattle.std.proofs.Common.{arith}
use Rattle.fax_bits.specs.Bits.{bits, code_bits}
use Rattle.fax_bits.proofs.sink.BitSink.clear.Goals as goal

pub returns : goal.returns
unfolding bits code_bits
returns c = grind arith
