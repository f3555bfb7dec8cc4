use Rattle.std.proofs.Common.{refl, arith}
use Rattle.fax_bits.proofs.AheadLemmas.{ones_taken}
use Rattle.fax_bits.proofs.source.BitSource.skip_ones.Goals as goal

pub returns-clause-ones : goal.returns-clause-ones
returns-clause-ones c =
    let order = c.self.inside.order in
    let bytes = c.self.inside.bytes.now in
    let w = c.self.inside.window in
    let few = c.min-count.ensures in
    ones_taken order bytes w w c.args.self.now c.self.invariant c.self.view_is refl refl c.self.invariant.within
    c.ones.result c.ones.ensures.loaded (c.ones.ensures.ahead order bytes) c.min-count.result (omega (arith, few))
    (omega (arith, few, c.requires)) c.after-self-inside.result c.after-self-inside.ensures.count
    c.after-self-inside.ensures.at
