use Rattle.fax_tool.proofs.SalvageLineLemmas.{one_lines_left}
use Rattle.fax_tool.proofs.commands.salvage_lines.SalvageSalvageLines.lemma_one.Goals as goal

pub returns : goal.returns
returns c = one_lines_left c.args.self.now.file (c.files_are_salvaged_in_one_way.ensures c.args.self.now.file)
