use Rattle.fax_walk.proofs.SourcePageLemmas.{paged}
use Rattle.fax_walk.proofs.laws.files_are_paged.Goals as goal

pub returns : goal.returns
returns c = λ file forms last items end forms_are items_are.
    paged c.bits_stand_by_index.ensures c.lines_are_read_in_one_way.ensures c.files_have_one_chain.ensures
    c.forms_are_whole.ensures file
    forms 0 last items end forms_are items_are
