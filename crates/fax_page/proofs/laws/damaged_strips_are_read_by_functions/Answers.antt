use Rattle.fax_page.proofs.LeftUncountedLaws.{damaged_graph}
use Rattle.fax_page.proofs.laws.damaged_strips_are_read_by_functions.Goals as goal

pub returns : goal.returns
returns c = damaged_graph
