use Rattle.fax_page.proofs.SalvageLaws.{strips_are_salvaged}
use Rattle.fax_page.proofs.laws.strips_are_salvaged_in_one_way.Goals as goal

pub returns : goal.returns
returns c = strips_are_salvaged
