use Rattle.fax_walk.proofs.CodedLemmas.{coded_files_are_walked}
use Rattle.fax_walk.proofs.laws.coded_files_are_walked.Goals as goal

pub returns : goal.returns
returns c = coded_files_are_walked c.coded_strips_are_read_back.ensures c.written_files_are_walked.ensures
