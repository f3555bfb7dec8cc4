use Rattle.fax_bits.proofs.NumberLemmas.{eight-fit, byte_bits-number, number-byte_bits}
use Rattle.fax_bits.proofs.laws.eight_bits_are_a_byte.Goals as goal

pub returns : goal.returns
returns c = record { fits = eight-fit; spelled = byte_bits-number; again = number-byte_bits }
