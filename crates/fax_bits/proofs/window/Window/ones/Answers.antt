use Rattle.std.proofs.Common.{drop, arith}
use Rattle.fax_bits.specs.Bits.{bits}
use Rattle.fax_bits.proofs.OneLemmas.{ones_before, ones_loaded}
use Rattle.fax_bits.proofs.window.Window.ones.Goals as goal

pub returns-clause-loaded : goal.returns-clause-loaded
returns-clause-loaded c = grind (arith, ones_loaded)

pub returns-clause-ahead : goal.returns-clause-ahead
returns-clause-ahead c order bytes =
    let w = c.args.self in
    ones_before w.count w.bits _ (bits order (drop w.at bytes)) w.few (omega arith) c.leading_ones.ensures
    (returns-clause-loaded c)
