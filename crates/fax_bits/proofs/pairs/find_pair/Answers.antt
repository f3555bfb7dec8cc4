use Rattle.std.proofs.Common.{arith}
use Rattle.fax_bits.proofs.PairLemmas.{pair_is_ahead}
use Rattle.fax_bits.proofs.pairs.find_pair.Goals as goal

pub returns : goal.returns
returns c =
    rw (c.from.ensures, c.from-2.ensures, c.from-3.ensures)
    (pair_is_ahead c.args.bits c.requires (omega (arith, c.if-len-eq0.false)))
