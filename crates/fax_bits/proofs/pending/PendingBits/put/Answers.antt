use Rattle.std.proofs.Common.{arith}
use Rattle.std.proofs.lemmas.Grind.{common_steps}
use Rattle.fax_bits.proofs.SinkLemmas.{first_part-lt, split_bits}
use Rattle.fax_bits.proofs.PendingLemmas.{both-lt, both_bits}
use Rattle.fax_bits.proofs.pending.PendingBits.put.Goals as goal

pub invariant_of-result : goal.invariant_of-result
invariant_of-result c = grind (arith, both-lt)

pub returns-then-count-lt-WORD-clause-ok : goal.returns-then-count-lt-WORD-clause-ok
returns-then-count-lt-WORD-clause-ok c = grind (arith, common_steps, both_bits)

pub overflow_cast-number-2 : goal.overflow_cast-number-2
overflow_cast-number-2 c = grind (arith, both-lt, first_part-lt)

pub returns-clause-ok : goal.returns-clause-ok
returns-clause-ok c = grind (arith, both_bits, split_bits, both-lt)
