use Rattle.std.proofs.Common.{◌+◌, ap, sym, ◌∙◌, arith}
use Rattle.fax_files.specs.views.Tiff.{PageStrips}
use Rattle.fax_files.proofs.EntryLemmas.{fewer_integers}
use Rattle.fax_files.proofs.PageLemmas.{strip_place, bytes_inside, bytes_outside}
use Rattle.fax_files.proofs.strips.Strips.bytes.Goals as goal

pub value_at-offset-requires-clause-there : goal.value_at-offset-requires-clause-there
value_at-offset-requires-clause-there c =
    rw (c.file-file.ensures.endian, c.file-file.ensures.file)
    (fewer_integers _ _ _ (c.args.s + 1) c.self.inside.count (omega
    (arith, c.requires, ap (λ (p : PageStrips). p.count) c.self.view_is))
    c.self.invariant.offsets_there)

pub value_at-len-requires-clause-there : goal.value_at-len-requires-clause-there
value_at-len-requires-clause-there c =
    rw (c.file-file.ensures.endian, c.file-file.ensures.file)
    (fewer_integers _ _ _ (c.args.s + 1) c.self.inside.count (omega
    (arith, c.requires, ap (λ (p : PageStrips). p.count) c.self.view_is))
    c.self.invariant.counts_there)

pub returns-then-not-is_inside-clause-outside : goal.returns-then-not-is_inside-clause-outside
returns-then-not-is_inside-clause-outside c =
    let strip_at = strip_place c.self.inside.directory c.self.inside.count c.args.s _ _ c.self.invariant in
    let offset = rw (c.file-file.ensures.endian, c.file-file.ensures.file) at c.value_at-offset.ensures in
    let len = rw (c.file-file.ensures.endian, c.file-file.ensures.file) at c.value_at-len.ensures in
    let outside = rw c.file-file.ensures.file at (sym c.is_inside.ensures ∙ c.if-not-is_inside.true) in
    rw (← c.self.view_is) ((rw (← offset, ← len) at strip_at) ∙ bytes_outside _ _ _ outside)

pub returns-clause-bytes : goal.returns-clause-bytes
returns-clause-bytes c =
    let strip_at = strip_place c.self.inside.directory c.self.inside.count c.args.s _ _ c.self.invariant in
    let offset = rw (c.file-file.ensures.endian, c.file-file.ensures.file) at c.value_at-offset.ensures in
    let len = rw (c.file-file.ensures.endian, c.file-file.ensures.file) at c.value_at-len.ensures in
    let inside = rw c.file-file.ensures.file at (sym c.is_inside.ensures ∙ c.if-not-is_inside.false) in
    rw (← c.self.view_is, c.file-file.ensures.file) ((rw (← offset, ← len) at strip_at) ∙ bytes_inside _ _ _ inside)
