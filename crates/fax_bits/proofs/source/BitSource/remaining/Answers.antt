use Rattle.std.proofs.Common.{arith}
use Rattle.fax_bits.proofs.SourceLemmas.{length-left_of}
use Rattle.fax_bits.proofs.source.BitSource.remaining.Goals as goal

pub returns : goal.returns
returns c = omega (arith, length-left_of _ _ _ _ c.self.view_is)
