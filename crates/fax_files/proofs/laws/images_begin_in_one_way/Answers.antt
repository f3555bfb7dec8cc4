use Rattle.fax_files.proofs.PbmOneLemmas.{one_image}
use Rattle.fax_files.proofs.laws.images_begin_in_one_way.Goals as goal

pub returns : goal.returns
returns c = one_image
