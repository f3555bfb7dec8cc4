use Rattle.std.proofs.Common.{arith}
use Rattle.std.proofs.lemmas.Grind.{common_steps}
use Rattle.fax_c.proofs.OutputPartLemmas.{part_put}
use Rattle.fax_c.proofs.file_conversion.put_part.Goals as goal

pub returns-clause-written : goal.returns-clause-written
returns-clause-written c =
    rw (c.put_zeros.ensures, c.put_bytes.ensures)
    (part_put c.args.out.now c.args.part.held.now c.args.at c.args.part.zeros (grind (arith, common_steps, c.requires)))
