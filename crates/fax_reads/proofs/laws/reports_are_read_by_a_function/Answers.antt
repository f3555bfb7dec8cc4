use Rattle.fax_reads.proofs.ReportGraph.{reports_graph}
use Rattle.fax_reads.proofs.laws.reports_are_read_by_a_function.Goals as goal

pub returns : goal.returns
returns c =
    reports_graph c.bits_stand_by_index.ensures c.lines_are_read_in_one_way.ensures c.files_have_one_chain.ensures
    c.forms_are_whole.ensures
