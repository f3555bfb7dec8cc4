use Rattle.std.proofs.Common.{arith}
use Rattle.std.proofs.lemmas.Grind.{common_steps}
use Rattle.fax_bits.proofs.WindowLemmas.{shifted_bits, shifted_zeros, length-first_bits}
use Rattle.fax_bits.proofs.window.Window.after.Goals as goal

pub invariant_of-result : goal.invariant_of-result
invariant_of-result c = grind (arith, shifted_zeros)

pub returns-clause-ahead : goal.returns-clause-ahead
returns-clause-ahead c order bytes = grind (arith, common_steps, length-first_bits, shifted_bits)
