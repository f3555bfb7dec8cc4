use Rattle.fax_page.proofs.StripGraph.{lines_graph}
use Rattle.fax_page.proofs.laws.lines_are_read_by_a_function.Goals as goal

pub returns : goal.returns
returns c = lines_graph
