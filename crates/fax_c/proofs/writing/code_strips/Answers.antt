use Rattle.std.proofs.Common.{rules}
use Rattle.fax_c.proofs.AddPageLemmas.{strip_more, the_strip}
use Rattle.fax_c.proofs.writing.code_strips.Goals as goal

pub loop-s-preserved : goal.loop-s-preserved
loop-s-preserved c =
    let strip = rw c.strip_form-strip.ensures.exact at c.in_ok-coded.ensures in
    strip_more (the_strip c.args.form.now c.args.k c.args.stride c.args.raster.now) c.loop-s.s c.loop-s.strips.items
    c.push.new.self.items
    c.in_ok-coded.coded c.loop-s.invariant (search rules) strip
