use Rattle.fax_page.proofs.SalvageFaultLaws.{lost_bits_do_not_matter}
use Rattle.fax_page.proofs.laws.lost_bits_do_not_matter.Goals as goal

pub returns : goal.returns
returns c = lost_bits_do_not_matter
