use Rattle.std.proofs.Common.{◌+◌, ◌*◌, refl, arith}
use Rattle.fax_bits.specs.declared.FillOrder.TheVariants.{MsbFirst}
use Rattle.fax_bits.specs.Bits.{bits}
use Rattle.fax_rows.proofs.WhiteWordLemmas.{white_on}
use Rattle.fax_rows.proofs.unpacked.past_eights.Goals as goal

pub loop-k-preserved : goal.loop-k-preserved
loop-k-preserved c =
    let b = bits MsbFirst c.args.bytes.now in
    record {
      from = omega (arith, c.loop-k.invariant.from);
      within = omega arith;
      white = white_on b (64 * c.args.from) (64 * c.loop-k.k) (64 * (c.loop-k.k + 8)) c.loop-k.invariant.white
          (λ i more less. c.if-are_white.ensures refl i (omega arith) (omega arith));
    }
