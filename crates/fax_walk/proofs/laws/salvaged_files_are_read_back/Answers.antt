use Rattle.std.proofs.Common.{refl}
use Rattle.fax_walk.proofs.ReadBackLemmas.{read_back}
use Rattle.fax_walk.proofs.SalvagedShapeLemmas.{source_writable}
use Rattle.fax_walk.proofs.laws.salvaged_files_are_read_back.Goals as goal

pub returns : goal.returns
returns c = λ file options output are_bytes salvaged.
    read_back c.coded_files_are_walked.ensures c.written_images_are_read.ensures options salvaged.pages
    (source_writable c.strips_are_salvaged_in_one_way.ensures c.lines_are_read_in_one_way.ensures
    c.forms_are_within_limits.ensures file are_bytes salvaged.pages salvaged.source)
    salvaged.some options.target refl output salvaged.output_is salvaged.fits
