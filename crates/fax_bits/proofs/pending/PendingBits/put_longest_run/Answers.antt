use Rattle.std.proofs.Common.{arith}
use Rattle.fax_bits.proofs.PendingLemmas.{bits_of_codes, prefix-second}
use Rattle.fax_bits.proofs.pending.PendingBits.put_longest_run.Goals as goal

pub returns-clause-err : goal.returns-clause-err
returns-clause-err c = grind (arith, prefix-second, bits_of_codes)
