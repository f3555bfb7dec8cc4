use Rattle.std.proofs.Common.{◌∙◌, arith}
use Rattle.fax_bits.specs.declared.FillOrder.TheVariants.{MsbFirst}
use Rattle.fax_bits.proofs.SinkLemmas.{first_part-lt, masked-lt, split_bits, pushed_bits, byte_bits-msb}
use Rattle.fax_bits.proofs.sink.push_whole.Goals as goal

pub overflow_cast-byte-in-loop-remaining : goal.overflow_cast-byte-in-loop-remaining
overflow_cast-byte-in-loop-remaining c = grind (arith, first_part-lt)

pub loop-remaining-preserved : goal.loop-remaining-preserved
loop-remaining-preserved c =
    let at = c.loop-remaining in
    record {
      few = omega arith;
      fits = masked-lt 8 at.remaining at.rest (omega arith) (omega arith) at.invariant.few at.invariant.fits;
      len = omega arith;
      room = omega arith;
      put =
          pushed_bits MsbFirst at.bytes.items _ _ _ _ _ c.push_reserved.ensures.items (byte_bits-msb _)
          (split_bits 8 at.remaining at.rest (omega arith) (omega arith) at.invariant.few at.invariant.fits)
          ∙ at.invariant.put;
    }
