use Rattle.std.proofs.Common.{arith}
use Rattle.fax_bits.proofs.SourceLemmas.{length-left_of}
use Rattle.fax_bits.proofs.source.BitSource.skip_slow.Goals as goal

pub overflow_add-place : goal.overflow_add-place
overflow_add-place c = omega (arith, c.place.ensures, length-left_of _ _ _ _ c.self.view_is)

pub at_bit_offset-self-inside-requires : goal.at_bit_offset-self-inside-requires
at_bit_offset-self-inside-requires c = record {
  within = omega (arith, c.place.ensures, length-left_of _ _ _ _ c.self.view_is);
  counted = c.self.invariant.counted;
}
