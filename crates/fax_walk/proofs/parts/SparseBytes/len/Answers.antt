use Rattle.std.proofs.Common.{length, ap, arith}
use Rattle.fax_walk.proofs.PartsLemmas.{spread_length}
use Rattle.fax_walk.proofs.parts.SparseBytes.len.Goals as goal

pub returns : goal.returns
returns c =
    let all =
    spread_length c.self.inside.gaps.items c.self.inside.held.items c.self.inside.placed c.self.invariant.gaps_are in
    omega (arith, c.len.ensures, c.self.invariant.zeros_are, all, ap length c.self.view_is)
