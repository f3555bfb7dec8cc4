use Rattle.std.proofs.Common.{arith}
use Rattle.fax_bits.proofs.VerticalLemmas.{verticals_begin}
use Rattle.fax_bits.proofs.verticals.find_verticals.Goals as goal

pub returns : goal.returns
returns c = rw (c.from.ensures, c.from-2.ensures, c.to_le_bytes.ensures)
    (verticals_begin c.args.bits c.requires (omega (arith, c.if-len-eq0.false)))
