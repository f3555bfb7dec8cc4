use Rattle.fax_walk.proofs.SalvagedAgainLemmas.{salvaged_again}
use Rattle.fax_walk.proofs.laws.salvaged_files_stay.Goals as goal

pub returns : goal.returns
returns c =
    salvaged_again c.lines_are_read_by_a_function.ensures c.whole_strips_are_found.ensures
    c.coded_strips_are_read_back.ensures c.written_files_are_read.ensures c.strips_are_salvaged_in_one_way.ensures
    c.lines_are_read_in_one_way.ensures c.forms_are_within_limits.ensures
