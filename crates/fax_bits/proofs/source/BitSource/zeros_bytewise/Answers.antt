use Rattle.std.proofs.Common.{arith, sym, ◌∙◌}
use Rattle.fax_bits.proofs.ZeroLemmas.{zeros_ahead, all_zeros}
use Rattle.fax_bits.proofs.source.BitSource.zeros_bytewise.Goals as goal

pub returns-then-bit : goal.returns-then-bit
returns-then-bit c =
    zeros_ahead c.args.self.now.remaining c.loop-zeros.zeros (omega arith) c.loop-zeros.invariant.below
    (sym c.bit.ensures ∙ c.if-bit.true)

pub returns : goal.returns
returns c = grind (arith, all_zeros)
