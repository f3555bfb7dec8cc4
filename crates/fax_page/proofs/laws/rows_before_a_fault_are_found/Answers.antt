use Rattle.fax_page.proofs.SalvageFaultLaws.{rows_before_faults}
use Rattle.fax_page.proofs.laws.rows_before_a_fault_are_found.Goals as goal

pub returns : goal.returns
returns c = rows_before_faults c.strips_are_salvaged_in_one_way.ensures
