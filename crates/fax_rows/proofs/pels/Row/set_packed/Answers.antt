use Rattle.std.proofs.Common.{take, ap, ◌∙◌, arith}
use Rattle.fax_rows.specs.Coded.{unpacked_row}
use Rattle.fax_rows.specs.code.ChangeLists.{pels_of_changes}
use Rattle.fax_rows.proofs.TurnLemmas.{length-pels_of_changes}
use Rattle.fax_rows.proofs.PlacedRowLemmas.{width_is}
use Rattle.fax_bits.proofs.SinkLemmas.{written_over}
use Rattle.fax_rows.proofs.pels.Row.set_packed.Goals as goal

pub changes_of_bits-end-requires-clause-whole : goal.changes_of_bits-end-requires-clause-whole
changes_of_bits-end-requires-clause-whole c =
    let same = width_is c.self.invariant c.self.view_is in
    rw same c.requires

pub returns-clause-pels : goal.returns-clause-pels
returns-clause-pels c =
    ap (λ changes. pels_of_changes c.self.inside.width (take c.put_sentinels-self-inside.result changes))
    (written_over c.self.inside.changes.len c.put_sentinels-self-inside.new.changes c.self.inside.changes.items (omega
    arith))
    ∙ c.put_sentinels-self-inside.ensures.pels ∙ c.changes_of_bits-end.ensures.pels
    ∙ ap (λ width. unpacked_row width c.args.bytes.now)
    (width_is c.self.invariant c.self.view_is)

pub returns-clause-same_width : goal.returns-clause-same_width
returns-clause-same_width c =
    length-pels_of_changes c.self.inside.width _
    ∙ width_is c.self.invariant c.self.view_is
