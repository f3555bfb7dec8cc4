use Rattle.std.proofs.Common.{refl}
use Rattle.std.specs.Int.{reverse_bits, reverse_bits_onto, w8}
use Rattle.fax_bits.proofs.LaneLemmas.{turned_lanes}
use Rattle.fax_bits.proofs.bit_reversal.turned.Goals as goal

pub returns : goal.returns
unfolding reverse_bits_onto
returns c = turned_lanes _ _ _ _ (reverse_bits w8) c.args.lanes c.fits-lanes.0 c.fits-lanes.1 refl
