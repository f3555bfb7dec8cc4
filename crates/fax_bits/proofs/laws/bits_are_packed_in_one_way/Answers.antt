use Rattle.fax_bits.proofs.PackedByteLemmas.{packed-padded, packed-only}
use Rattle.fax_bits.proofs.laws.bits_are_packed_in_one_way.Goals as goal

pub returns : goal.returns
returns c = record { padded = packed-padded; only = packed-only }
