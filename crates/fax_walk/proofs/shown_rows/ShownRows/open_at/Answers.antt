use Rattle.fax_walk.proofs.SalvagePlaceLemmas.{started_fits}
use Rattle.fax_walk.proofs.shown_rows.ShownRows.open_at.Goals as goal

pub returns-clause-err : goal.returns-clause-err
returns-clause-err c =
    started_fits c.args.strips.directory c.args.form c.args.row c.args.bits c.args.before c.in_ok-rows.rows
    c.in_ok-rows.ensures.ok
