use Rattle.std.proofs.Common.{◌≡◌, length, ◌∙◌, arith}
use Rattle.fax_files.proofs.WritingLemmas.{lengths_more, put_after, within}
use Rattle.fax_files.proofs.written.put_byte_counts.Goals as goal

pub overflow_cast-len : goal.overflow_cast-len
overflow_cast-len c =
    omega (
      arith,
      within c.args.strips.now c.loop-strip.strip-index c.strip-item.result c.loop-strip-test.true c.strip-item.is,
      c.requires,
      c.len.ensures,
    )

pub loop-strip-preserved : goal.loop-strip-preserved
loop-strip-preserved c =
    let more = lengths_more c.args.strips.now c.loop-strip.strip-index c.strip-item.result c.loop-strip-test.true
    c.strip-item.is in
    let count : c.len.result ≡ length c.strip-item.result.items = omega (arith, c.len.ensures) in
    let put = rw count at c.in_ok-push_u32.ensures in
    rw more (put ∙ put_after _ _ _ _ c.loop-strip.invariant)
