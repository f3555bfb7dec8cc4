use Rattle.fax_tool.proofs.LineLemmas.{page_cursor}
use Rattle.fax_tool.proofs.commands.printed_lines.PagesLines.long_cursor.Goals as goal

pub returns : goal.returns
returns c =
    let after = page_cursor c.form_tails_are_one.ensures.one c.args.self.now c.cursor-after.result
    c.cursor-after.ensures in
    (after.0, after.1, after.2.1)
