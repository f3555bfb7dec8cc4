use Rattle.fax_files.proofs.TotalLemmas.{totals_are_told}
use Rattle.fax_files.proofs.laws.totals_are_told.Goals as goal

pub returns : goal.returns
returns c = totals_are_told
