use Rattle.std.proofs.Common.{arith}
use Rattle.fax_bits.proofs.PutLemmas.{short_bits, long_bits}
use Rattle.fax_bits.proofs.put.codes_of_run.Goals as goal

pub returns-then-n-lt64 : goal.returns-then-n-lt64
returns-then-n-lt64 c = grind (arith, short_bits)

pub returns : goal.returns
returns c = grind (arith, long_bits)
