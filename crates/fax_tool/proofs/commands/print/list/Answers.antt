use Rattle.clap.proofs.TakesLemmas.{passed_up}
use Rattle.fax_tool.proofs.CommandLemmas.{pages_unread}
use Rattle.fax_tool.proofs.commands.print.list.Goals as goal

pub returns-in_err-file-clause-err : goal.returns-in_err-file-clause-err
returns-in_err-file-clause-err g c =
    passed_up c.from_residual.result _ _ c.from_residual.ensures.1
    (pages_unread c.form_tails_are_one.ensures.one c.args.part.now _ (g.R.Source.remaining c.args.input.now) _ _ _
    c.in_err-file.ensures.err)
