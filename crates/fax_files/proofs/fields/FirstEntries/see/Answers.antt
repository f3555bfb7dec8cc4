use Rattle.std.proofs.Common.{◌∙◌, sym}
use Rattle.fax_files.proofs.FieldLemmas.{tag_searched, seen, passed}
use Rattle.fax_files.proofs.fields.FirstEntries.see.Goals as goal

pub returns-in-Ok : goal.returns-in-Ok
returns-in-Ok c = λ fields h.
    let there = rw c.in-Ok.is at (tag_searched c.tag.result c.binary_search.result c.binary_search.ensures.position) in
    seen c.args.entry fields _ c.in-Ok.slot there.0 (there.1 ∙ c.tag.ensures) h

pub returns-in_default : goal.returns-in_default
returns-in_default c = λ fields h.
    let none = rw c.in_default.is at (tag_searched c.tag.result c.binary_search.result c.binary_search.ensures.position)
    in
    passed c.args.entry fields _ (λ k inside e. none k inside (e ∙ sym c.tag.ensures)) h
