use Rattle.fax_tool.proofs.LineLemmas.{row_cursor}
use Rattle.fax_tool.proofs.commands.printed_lines.WalkLines.cursor.Goals as goal

pub returns : goal.returns
returns c = row_cursor c.beginnings_have_one_tail.ensures c.args.self.now c.cursor.result c.cursor.ensures
