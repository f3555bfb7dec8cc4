use Rattle.std.proofs.Common.{arith}
use Rattle.fax_rows.proofs.WrittenStepLemmas.{under_bits, under_place}
use Rattle.fax_rows.proofs.put_rows.put_step.Goals as goal

pub returns-then-ahead-clause-ok : goal.returns-then-ahead-clause-ok
returns-then-ahead-clause-ok c = grind (arith, under_bits)

pub returns-then-ahead-clause-next : goal.returns-then-ahead-clause-next
returns-then-ahead-clause-next c = grind (arith, under_place)
