use Rattle.std.proofs.lemmas.Result.{IfOk-weaker}
use Rattle.fax_tool.proofs.CommandLineLemmas.{command_added}
use Rattle.fax_tool.proofs.args.command_line.Goals as goal

pub returns : goal.returns
returns c =
    let one = command_added c.in_ok-subcommand.ensures c.in_ok-printers.ensures c.in_ok-writing.ensures in
    let two = command_added c.in_ok-subcommand-2.ensures one c.in_ok-checking.ensures in
    IfOk-weaker c.subcommand-3.result _ _ (λ r adds. command_added adds two c.in_ok-writing-2.ensures)
    c.subcommand-3.ensures
