use Rattle.fax_reads.proofs.FileExampleLemmas.{files_read}
use Rattle.fax_reads.proofs.laws.worked_files_are_read.Goals as goal

pub returns : goal.returns
returns c = files_read c.files_are_read_by_functions.ensures
