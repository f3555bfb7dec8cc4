use Rattle.fax_reads.proofs.SalvageExampleLemmas.{salvages}
use Rattle.fax_reads.proofs.laws.worked_salvages_are_read.Goals as goal

pub returns : goal.returns
returns c = salvages c.salvages_are_read_by_functions.ensures c.damaged_strips_are_read_by_functions.ensures
