use Rattle.std.proofs.Common.{inr}
use Rattle.fax_c.proofs.strip_report.faxpages_strip_check.Goals as goal

pub returns-in_default : goal.returns-in_default
returns-in_default c = inr (c.in_default.ensures, c.check_uncounted.ensures)
