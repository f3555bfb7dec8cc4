use Rattle.std.proofs.Common.{arith}
use Rattle.std.proofs.lemmas.Grind.{common_steps}
use Rattle.fax_bits.proofs.WindowLemmas.{loaded_bits, loaded_zeros}
use Rattle.fax_bits.proofs.WordLemmas.{bits-four}
use Rattle.fax_bits.proofs.window.Window.refilled.Goals as goal

pub invariant_of-result : goal.invariant_of-result
invariant_of-result c = grind (arith, loaded_zeros)

pub returns-clause-ahead : goal.returns-clause-ahead
returns-clause-ahead c = grind (arith, common_steps, loaded_bits, bits-four)
