use Rattle.fax_reads.proofs.TailGraph.{tails_graph}
use Rattle.fax_reads.proofs.laws.tails_are_read_by_functions.Goals as goal

pub returns : goal.returns
returns c =
    tails_graph c.bits_stand_by_index.ensures c.lines_are_read_in_one_way.ensures c.files_have_one_chain.ensures
    c.forms_are_whole.ensures
