use Rattle.std.proofs.Common.{◌+◌, ◌*◌, arith}
use Rattle.fax_bits.specs.declared.FillOrder.TheVariants.{MsbFirst}
use Rattle.fax_bits.specs.Bits.{bits}
use Rattle.fax_rows.proofs.WhiteWordLemmas.{white_bits, white_on}
use Rattle.fax_rows.proofs.unpacked.past_white.Goals as goal

pub loop-k-preserved : goal.loop-k-preserved
loop-k-preserved c =
    let b = bits MsbFirst c.args.bytes.now in
    record {
      from = omega (arith, c.loop-k.invariant.from);
      within = omega arith;
      white = white_on b (64 * c.args.from) (64 * c.loop-k.k) (64 * (c.loop-k.k + 1)) c.loop-k.invariant.white
          (λ i more less. white_bits b (8 * c.loop-k.k) _ c.if-word_at-eq0.true c.word_at.ensures i (omega arith)
          (omega arith));
    }
