use Rattle.std.proofs.lemmas.Result.{IfOk-weaker}
use Rattle.fax_tool.proofs.CommandLineLemmas.{command_added, needs_command}
use Rattle.fax_tool.proofs.args.printers.Goals as goal

pub returns : goal.returns
returns c =
    let none = needs_command c.subcommand_required.result c.disable_help_subcommand.result c.disable_help_flag.result
    c.new.result
    c.subcommand_required.ensures c.disable_help_subcommand.ensures c.disable_help_flag.ensures c.new.ensures.app
    c.new.ensures.local in
    let one = command_added c.in_ok-subcommand.ensures none c.in_ok-printing.ensures in
    IfOk-weaker c.subcommand-2.result _ _ (λ r adds. command_added adds one c.in_ok-printing_rows.ensures)
    c.subcommand-2.ensures
