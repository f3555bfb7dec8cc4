use Rattle.fax_tool.proofs.LineLemmas.{row_places}
use Rattle.fax_tool.proofs.commands.printed_lines.WalkLines.long_cursor.Goals as goal

pub returns : goal.returns
returns c =
    row_places c.beginnings_have_one_tail.ensures c.args.self.now c.long_cursor.result c.long_cursor.ensures
