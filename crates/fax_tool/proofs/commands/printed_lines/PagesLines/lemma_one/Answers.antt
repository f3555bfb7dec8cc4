use Rattle.fax_tool.proofs.LineLemmas.{one_pages}
use Rattle.fax_tool.proofs.commands.printed_lines.PagesLines.lemma_one.Goals as goal

pub returns : goal.returns
returns c = one_pages c.args.self.now.file c.form_tails_are_one.ensures.one c.args.self.now.origin
