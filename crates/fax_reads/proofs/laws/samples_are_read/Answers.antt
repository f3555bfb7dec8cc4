use Rattle.fax_reads.proofs.SampleExampleLemmas.{samples}
use Rattle.fax_reads.proofs.laws.samples_are_read.Goals as goal

pub returns : goal.returns
returns c = samples c.files_are_read_by_functions.ensures
