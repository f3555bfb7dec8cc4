use Rattle.std.proofs.Common.{arith}
use Rattle.fax_bits.proofs.WindowLemmas.{zeros_before}
use Rattle.fax_bits.proofs.window.Window.zeros.Goals as goal

pub returns : goal.returns
returns c = grind (arith, zeros_before)
