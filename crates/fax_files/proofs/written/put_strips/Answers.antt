use Rattle.std.proofs.Common.{◌∙◌}
use Rattle.fax_files.proofs.WritingLemmas.{joined_more, put_after}
use Rattle.fax_files.proofs.written.put_strips.Goals as goal

pub loop-strip-preserved : goal.loop-strip-preserved
loop-strip-preserved c =
    let more = joined_more c.args.strips.now c.loop-strip.strip-index c.strip-item.result c.loop-strip-test.true
    c.strip-item.is in
    let put = rw c.deref.ensures.value at c.in_ok-extend_from_slice.ensures.items in
    rw more (put ∙ put_after _ _ _ _ c.loop-strip.invariant)
