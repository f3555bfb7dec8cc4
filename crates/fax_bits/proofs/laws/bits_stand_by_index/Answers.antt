use Rattle.fax_bits.proofs.SourceLemmas.{length-bits, get_or-byte_bits, bit_of_bytes}
use Rattle.fax_bits.proofs.laws.bits_stand_by_index.Goals as goal

pub returns : goal.returns
returns c = record { count = length-bits; of_byte = get_or-byte_bits; of_bytes = bit_of_bytes }
