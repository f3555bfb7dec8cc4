use Rattle.fax_page.proofs.SalvageLaws.{whole_strips_are_found}
use Rattle.fax_page.proofs.laws.whole_strips_are_found.Goals as goal

pub returns : goal.returns
returns c = whole_strips_are_found
