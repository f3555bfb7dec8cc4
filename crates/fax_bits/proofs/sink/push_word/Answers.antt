use Rattle.std.proofs.Common.{arith}
use Rattle.fax_bits.proofs.SinkLemmas.{bits-append, be_coded}
use Rattle.fax_bits.proofs.sink.push_word.Goals as goal

pub returns-clause-pushed : goal.returns-clause-pushed
returns-clause-pushed c = grind (arith, bits-append, be_coded)
