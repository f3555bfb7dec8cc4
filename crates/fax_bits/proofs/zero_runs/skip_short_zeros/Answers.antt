use Rattle.std.proofs.Common.{arith}
use Rattle.fax_bits.proofs.ZeroRunLemmas.{six_more}
use Rattle.fax_bits.proofs.zero_runs.skip_short_zeros.Goals as goal

pub loop-at-preserved : goal.loop-at-preserved
loop-at-preserved c = record {
  after = omega (arith, c.loop-at.invariant.after);
  within = omega (arith, c.loop-at-test.true, c.loop-at.invariant.within);
  none = six_more c.args.order c.args.bytes.now c.args.from c.loop-at.at c.long_word_at.result
      c.loop-at.invariant.none c.long_word_at.ensures (c.has_eleven_zeros.ensures c.if-not-has_eleven_zeros.true);
}
