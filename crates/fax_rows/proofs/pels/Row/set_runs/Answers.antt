use Rattle.std.proofs.Common.{take, ap, sym, ◌∙◌, arith}
use Rattle.std.proofs.lemmas.Bool.{false≢true}
use Rattle.fax_rows.specs.Rows.{runs_of}
use Rattle.fax_rows.specs.code.ChangeLists.{pels_of_changes}
use Rattle.fax_rows.proofs.GivenRunLemmas.{longest_are_back, longest_of}
use Rattle.fax_bits.proofs.SinkLemmas.{written_over}
use Rattle.fax_rows.proofs.PlacedRowLemmas.{width_is}
use Rattle.fax_rows.proofs.TurnLemmas.{length-pels_of_changes}
use Rattle.fax_rows.proofs.pels.Row.set_runs.Goals as goal

pub returns-then-not-are_longest-clause-no_such_row : goal.returns-then-not-are_longest-clause-no_such_row
returns-then-not-are_longest-clause-no_such_row c = λ told row len is.
    let wide = width_is c.self.invariant c.self.view_is in
    absurd (false≢true (c.if-not-are_longest.ensures.1
    (longest_of row c.args.runs.now c.self.inside.width (len ∙ sym wide) is)))

pub returns-clause-set : goal.returns-clause-set
returns-clause-set c = λ told.
    ap (λ changes. runs_of (pels_of_changes c.self.inside.width (take c.put_sentinels-self-inside.result changes)))
    (written_over c.self.inside.changes.len c.put_sentinels-self-inside.new.changes c.self.inside.changes.items (omega
    arith))
    ∙ ap runs_of (c.put_sentinels-self-inside.ensures.pels ∙ c.put_runs-end.ensures.pels)
    ∙ longest_are_back c.args.runs.now c.self.inside.width c.self.invariant.some (c.if-not-are_longest.ensures.0 told)

pub returns-clause-same_width : goal.returns-clause-same_width
returns-clause-same_width c = grind (arith, length-pels_of_changes)
