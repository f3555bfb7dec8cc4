use Rattle.std.proofs.Common.{◌+◌, ap, arith}
use Rattle.fax_files.specs.views.Tiff.{TiffDirectory}
use Rattle.fax_files.proofs.FieldLemmas.{none_left, one_more}
use Rattle.fax_files.proofs.directory.Directory.first_entries.Goals as goal

pub loop-k-init : goal.loop-k-init
loop-k-init c = none_left _ _ _ c.entry_count-count.result _ c.new-first.ensures

pub loop-k-preserved : goal.loop-k-preserved
loop-k-preserved c =
    let offset = ap (λ (d : TiffDirectory). d.offset) c.self.view_is in
    let entry_is = rw (c.file-file.ensures.endian, c.file-file.ensures.file, offset) at c.entry_at.ensures in
    one_more c.args.self.now.endian c.args.self.now.file (c.args.self.now.offset + 2) c.entry_count-count.result
    c.loop-k.k _ _ _
    (omega arith) (omega arith) entry_is c.loop-k.invariant c.see.ensures
