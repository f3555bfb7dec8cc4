use Rattle.std.proofs.Common.{arith}
use Rattle.fax_bits.proofs.WordLemmas.{bits-drop, bits-from}
use Rattle.fax_bits.proofs.window.Window.at_bit_offset.Goals as goal

pub returns-then-bits-eq0-clause-ahead : goal.returns-then-bits-eq0-clause-ahead
returns-then-bits-eq0-clause-ahead c = grind (arith, bits-drop)

pub returns-clause-ahead : goal.returns-clause-ahead
returns-clause-ahead c = grind (arith, bits-from)
