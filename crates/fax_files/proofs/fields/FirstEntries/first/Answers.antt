use Rattle.fax_files.proofs.FieldLemmas.{tag_searched, sought_stands, found_first}
use Rattle.fax_files.proofs.fields.FirstEntries.first.Goals as goal

pub unreachable-requires : goal.unreachable-requires
unreachable-requires c =
    sought_stands c.args.tag c.requires (rw c.in-Err.is at (tag_searched c.args.tag c.binary_search.result
    c.binary_search.ensures.position))

pub returns : goal.returns
returns c = λ fields h.
    let there = rw c.in-Ok.is at (tag_searched c.args.tag c.binary_search.result c.binary_search.ensures.position) in
    found_first fields _ c.in-Ok.slot c.args.tag _ there.0 there.1 h
