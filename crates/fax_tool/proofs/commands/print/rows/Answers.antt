use Rattle.std.proofs.Common.{rules}
use Rattle.clap.proofs.TakesLemmas.{passed_up}
use Rattle.fax_tool.proofs.CommandLemmas.{rows_not_started, rows_unread}
use Rattle.fax_tool.proofs.commands.print.rows.Goals as goal

pub returns-in_err-origin-clause-err : goal.returns-in_err-origin-clause-err
returns-in_err-origin-clause-err g c =
    passed_up c.from_residual.result _ _ c.from_residual.ensures.1 (rw (c.requires.input_counts, c.requires.taken)
    (rows_not_started c.beginnings_have_one_tail.ensures c.args.part.now _ (g.R.Source.remaining c.args.input.now) _ _ _
    (search rules)
    c.in_err-origin.ensures.err))

pub returns-in_err-file-clause-err : goal.returns-in_err-file-clause-err
returns-in_err-file-clause-err g c =
    let stops = rw (c.begin.ensures, c.in_ok-origin.ensures.unwritten) at c.in_err-file.ensures.err in
    passed_up c.from_residual-in_err-file.result _ _ c.from_residual-in_err-file.ensures.1
    (rows_unread c.beginnings_have_one_tail.ensures c.args.part.now _ (g.R.Source.remaining c.args.input.now) _ _ _
    stops)
