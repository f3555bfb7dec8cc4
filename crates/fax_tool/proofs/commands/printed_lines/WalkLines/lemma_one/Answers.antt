use Rattle.fax_tool.proofs.LineLemmas.{one_rows}
use Rattle.fax_tool.proofs.commands.printed_lines.WalkLines.lemma_one.Goals as goal

pub returns : goal.returns
returns c = one_rows c.args.self.now.file c.beginnings_have_one_tail.ensures c.args.self.now.origin
