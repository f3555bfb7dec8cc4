use Rattle.std.proofs.Common.{◌+◌, ap, ◌∙◌, sym, arith}
use Rattle.fax_files.specs.views.Tiff.{PageStrips}
use Rattle.fax_files.proofs.EntryLemmas.{fewer_integers}
use Rattle.fax_files.proofs.PageLemmas.{inside_offset, up_to_end}
use Rattle.fax_files.proofs.strips.Strips.bytes_inside.Goals as goal

pub value_at-offset-requires-clause-there : goal.value_at-offset-requires-clause-there
value_at-offset-requires-clause-there c =
    rw (c.file-file.ensures.endian, c.file-file.ensures.file)
    (fewer_integers _ _ _ (c.args.s + 1) c.self.inside.count (omega
    (arith, c.requires, ap (λ (p : PageStrips). p.count) c.self.view_is))
    c.self.invariant.offsets_there)

pub value_at-len-requires-clause-there : goal.value_at-len-requires-clause-there
value_at-len-requires-clause-there c =
    rw (c.file-file.ensures.endian, c.file-file.ensures.file)
    (fewer_integers _ _ _ (c.args.s + 1) c.self.inside.count (omega
    (arith, c.requires, ap (λ (p : PageStrips). p.count) c.self.view_is))
    c.self.invariant.counts_there)

pub returns-clause-bytes : goal.returns-clause-bytes
returns-clause-bytes c =
    let strip_at = inside_offset c.self.inside.directory c.self.inside.count c.args.s _ _ c.self.invariant in
    let offset = rw (c.file-file.ensures.endian, c.file-file.ensures.file) at c.value_at-offset.ensures in
    let len = rw (c.file-file.ensures.endian, c.file-file.ensures.file) at c.value_at-len.ensures in
    let read = up_to_end c.file-file.result.bytes.now _ _ _ _ c.min-begin.ensures c.min.ensures in
    read ∙ rw (c.file-file.ensures.file, offset, len, ← c.self.view_is) (sym strip_at)
