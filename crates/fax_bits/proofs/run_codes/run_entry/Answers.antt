use Rattle.std.proofs.lemmas.Grind.{common_steps}
use Rattle.std.proofs.Common.{arith}
use Rattle.fax_bits.proofs.ArrayLemmas.{run_entry_at}
use Rattle.fax_bits.proofs.run_codes.run_entry.Goals as goal
use Rattle.fax_bits.proofs.run_codes.run_entry.Goals.{in-White, in-Black}

pub returns : goal.returns
returns c = grind (arith, common_steps, run_entry_at)
