use Rattle.std.proofs.Common.{arith}
use Rattle.fax_bits.proofs.PendingLemmas.{length-waiting, both-lt, both_bits}
use Rattle.fax_bits.proofs.pending.PendingBits.then.Goals as goal

pub invariant_of-result : goal.invariant_of-result
invariant_of-result c = grind (arith, length-waiting, both-lt)

pub returns : goal.returns
returns c = grind (arith, both_bits)
