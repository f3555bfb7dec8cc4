use Rattle.fax_bits.proofs.ModeLemmas.{mode_bits_are_read}
use Rattle.fax_bits.proofs.laws.modes_are_read_back.Goals as goal

pub returns : goal.returns
returns c = mode_bits_are_read
