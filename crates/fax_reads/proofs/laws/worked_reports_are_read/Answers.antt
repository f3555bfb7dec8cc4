use Rattle.fax_reads.proofs.ReportExampleLemmas.{reports_read}
use Rattle.fax_reads.proofs.laws.worked_reports_are_read.Goals as goal

pub returns : goal.returns
returns c = reports_read c.reports_are_read_by_a_function.ensures
