use Rattle.fax_reads.proofs.SalvageFileGraph.{salvages_graph}
use Rattle.fax_reads.proofs.laws.salvages_are_read_by_functions.Goals as goal

pub returns : goal.returns
returns c =
    salvages_graph c.damaged_strips_are_read_by_functions.ensures
    c.files_are_salvaged_in_one_way.ensures
