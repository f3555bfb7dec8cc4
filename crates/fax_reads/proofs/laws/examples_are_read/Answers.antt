use Rattle.fax_reads.proofs.ExampleLemmas.{are_read}
use Rattle.fax_reads.proofs.laws.examples_are_read.Goals as goal

pub returns : goal.returns
returns c = are_read
