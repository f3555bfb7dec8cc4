use Rattle.std.proofs.Common.{◌∙◌, arith}
use Rattle.fax_files.proofs.WritingLemmas.{offsets_more, put_after, end_of_strip, within}
use Rattle.fax_files.proofs.written.put_offsets.Goals as goal

pub overflow_cast-offset : goal.overflow_cast-offset
overflow_cast-offset c =
    omega (
      arith,
      within c.args.strips.now c.loop-strip.strip-index c.strip-item.result c.loop-strip-test.true c.strip-item.is,
      c.requires,
      c.len.ensures,
    )

pub overflow_add-offset : goal.overflow_add-offset
overflow_add-offset c =
    omega (
      arith,
      within c.args.strips.now c.loop-strip.strip-index c.strip-item.result c.loop-strip-test.true c.strip-item.is,
      c.requires,
      c.len.ensures,
      c.loop-strip.invariant.offset,
    )

pub loop-strip-preserved : goal.loop-strip-preserved
loop-strip-preserved c =
    let more =
    offsets_more c.args.strips.now c.loop-strip.strip-index c.strip-item.result c.loop-strip-test.true c.strip-item.is
    c.args.start in
    let end = end_of_strip c.args.strips.now c.loop-strip.strip-index c.strip-item.result c.loop-strip-test.true
    c.strip-item.is in
    record {
      offset = omega (arith, end, c.loop-strip.invariant.offset, c.len.ensures);
      put =
          let put = rw c.loop-strip.invariant.offset at c.in_ok-push_u32.ensures in
          rw more (put ∙ put_after _ _ _ _ c.loop-strip.invariant.put);
    }
