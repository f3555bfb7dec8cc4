use Rattle.std.proofs.Common.{sym, ◌∙◌}
use Rattle.std.proofs.lemmas.Bool.{false≢true}
use Rattle.fax_bits.specs.declared.Colour.TheVariants.{White}
use Rattle.fax_rows.specs.Rows.{pels_of_runs}
use Rattle.fax_rows.proofs.GivenRunLemmas.{longest_are_back, longest_of}
use Rattle.fax_rows.proofs.RowLaws.{length-pels_of_runs}
use Rattle.fax_rows.proofs.pels.Row.has_runs.Goals as goal

pub returns-clause-row : goal.returns-clause-row
returns-clause-row c = λ told.
    let longest = c.are_longest.ensures.0 told in (
      pels_of_runs White c.args.runs.now,
      length-pels_of_runs White c.args.runs.now ∙ longest.whole,
      longest_are_back c.args.runs.now c.args.width c.requires.some longest,
    )

pub returns-clause-no_such_row : goal.returns-clause-no_such_row
returns-clause-no_such_row c = λ told row wide is.
    absurd (false≢true (sym told ∙ c.are_longest.ensures.1 (longest_of row c.args.runs.now c.args.width wide is)))
