use Rattle.std.proofs.Common.{arith}
use Rattle.fax_files.proofs.WritingLemmas.{end_of_strip, within}
use Rattle.fax_files.proofs.written.strips_end.Goals as goal

pub returns-then-len-end-clause-none : goal.returns-then-len-end-clause-none
returns-then-len-end-clause-none c =
    omega (
      arith,
      within c.args.strips.now c.loop-strip.strip-index c.strip-item.result c.loop-strip-test.true c.strip-item.is,
      c.loop-strip.invariant.end,
      c.len.ensures,
      c.if-len-end.true,
    )

pub loop-strip-preserved : goal.loop-strip-preserved
loop-strip-preserved c =
    let end = end_of_strip c.args.strips.now c.loop-strip.strip-index c.strip-item.result c.loop-strip-test.true
    c.strip-item.is in
    record {
      end = omega (arith, end, c.loop-strip.invariant.end, c.len-in-loop-strip.ensures);
      limit = omega (
        arith,
        c.len.ensures,
        c.len-in-loop-strip.ensures,
        c.if-len-end.false,
        c.loop-strip.invariant.limit,
      );
    }
