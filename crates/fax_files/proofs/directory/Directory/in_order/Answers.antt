use Rattle.std.proofs.Common.{◌+◌, ap}
use Rattle.fax_files.specs.views.Tiff.{TiffDirectory}
use Rattle.fax_files.proofs.FieldLemmas.{out_of_order, still_in_order, in_order_to_the_end}
use Rattle.fax_files.proofs.directory.Directory.in_order.Goals as goal

pub returns-then-u16_at : goal.returns-then-u16_at
returns-then-u16_at c =
    let offset = ap (λ (d : TiffDirectory). d.offset) c.self.view_is in
    let above = rw (
      c.u16_at.ensures,
      c.u16_at-in-loop-k.ensures,
      c.file-file.ensures.endian,
      c.file-file.ensures.file,
      offset,
    ) at
    c.if-u16_at.true in
    out_of_order c.args.self.now.endian c.args.self.now.file (c.args.self.now.offset + 2) c.entry_count-count.result
    c.loop-k.k _
    c.loop-k.auto.k c.loop-k.invariant c.loop-k-test.true above

pub loop-k-preserved : goal.loop-k-preserved
loop-k-preserved c =
    let offset = ap (λ (d : TiffDirectory). d.offset) c.self.view_is in
    let below = rw (
      c.u16_at.ensures,
      c.u16_at-in-loop-k.ensures,
      c.file-file.ensures.endian,
      c.file-file.ensures.file,
      offset,
    ) at
    c.if-u16_at.false in
    still_in_order c.args.self.now.endian c.args.self.now.file (c.args.self.now.offset + 2) c.entry_count-count.result
    c.loop-k.k _
    c.loop-k.auto.k c.loop-k.invariant c.loop-k-test.true below

pub returns : goal.returns
returns c =
    in_order_to_the_end c.args.self.now.endian c.args.self.now.file (c.args.self.now.offset + 2)
    c.entry_count-count.result c.loop-k.k _
    c.loop-k.auto.k c.loop-k.invariant c.loop-k-test.false
