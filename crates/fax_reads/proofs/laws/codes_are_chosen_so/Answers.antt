use Rattle.fax_reads.proofs.CodedExampleLemmas.{chosen}
use Rattle.fax_reads.proofs.laws.codes_are_chosen_so.Goals as goal

pub returns : goal.returns
returns c = chosen
