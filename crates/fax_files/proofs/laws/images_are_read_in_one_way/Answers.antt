use Rattle.fax_files.proofs.PbmOneLemmas.{images_are_one}
use Rattle.fax_files.proofs.laws.images_are_read_in_one_way.Goals as goal

pub returns : goal.returns
returns c = images_are_one
