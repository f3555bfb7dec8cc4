use Rattle.fax_files.proofs.PbmWrittenLemmas.{images_written}
use Rattle.fax_files.proofs.laws.written_images_are_read.Goals as goal

pub returns : goal.returns
returns c = images_written c.packing_undoes_unpacking.ensures
