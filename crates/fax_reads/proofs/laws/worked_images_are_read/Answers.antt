use Rattle.fax_reads.proofs.ImageExampleLemmas.{images_read}
use Rattle.fax_reads.proofs.laws.worked_images_are_read.Goals as goal

pub returns : goal.returns
returns c = images_read c.images_are_read_by_functions.ensures
