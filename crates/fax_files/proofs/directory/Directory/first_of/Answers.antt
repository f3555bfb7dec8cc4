use Rattle.std.proofs.Common.{◌+◌, ◌*◌, sym, ◌∙◌, ap, arith}
use Rattle.fax_files.specs.views.Tiff.{TiffDirectory}
use Rattle.fax_files.proofs.FieldLemmas.{first_here, first_later, first_nowhere}
use Rattle.fax_files.proofs.directory.Directory.first_of.Goals as goal

pub returns-then-tag-clause-first : goal.returns-then-tag-clause-first
returns-then-tag-clause-first c =
    let offset = ap (λ (d : TiffDirectory). d.offset) c.self.view_is in
    let entry_is = rw (c.file-file.ensures.endian, c.file-file.ensures.file, offset) at c.entry_at-entry.ensures in
    sym (first_here c.args.self.now.endian c.args.self.now.file (c.args.self.now.offset + 2) c.entry_count-count.result
    c.loop-k.k c.args.tag c.entry_at-entry.result (omega (arith, c.loop-k-test.true)) entry_is
    (sym c.tag.ensures ∙ c.if-tag.true))
    ∙ c.loop-k.invariant

pub loop-k-preserved : goal.loop-k-preserved
loop-k-preserved c =
    let offset = ap (λ (d : TiffDirectory). d.offset) c.self.view_is in
    let entry_is = rw (c.file-file.ensures.endian, c.file-file.ensures.file, offset) at c.entry_at-entry.ensures in
    sym (first_later c.args.self.now.endian c.args.self.now.file (c.args.self.now.offset + 2) c.entry_count-count.result
    c.loop-k.k c.args.tag c.entry_at-entry.result (omega (arith, c.loop-k-test.true)) entry_is
    (λ hit. c.if-tag.false (c.tag.ensures ∙ hit)))
    ∙ c.loop-k.invariant

pub returns-clause-first : goal.returns-clause-first
returns-clause-first c =
    sym (first_nowhere c.args.self.now.endian c.args.self.now.file (c.args.self.now.offset + 2 + 12 * c.loop-k.k)
    c.entry_count-count.result c.loop-k.k c.args.tag (omega (arith, c.loop-k-test.false)))
    ∙ c.loop-k.invariant
