use Rattle.fax_page.proofs.UncountedLaws.{uncounted_rows_are_a_strip}
use Rattle.fax_page.proofs.laws.uncounted_rows_are_a_strip.Goals as goal

pub returns : goal.returns
returns c = uncounted_rows_are_a_strip
