use Rattle.fax_reads.proofs.TailExampleLemmas.{tails_read}
use Rattle.fax_reads.proofs.laws.worked_tails_are_read.Goals as goal

pub returns : goal.returns
returns c = tails_read c.tails_are_read_by_functions.ensures
