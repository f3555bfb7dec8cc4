use Rattle.fax_reads.proofs.ImageGraph.{images_graph}
use Rattle.fax_reads.proofs.laws.images_are_read_by_functions.Goals as goal

pub returns : goal.returns
returns c = images_graph c.images_are_read_in_one_way.ensures
