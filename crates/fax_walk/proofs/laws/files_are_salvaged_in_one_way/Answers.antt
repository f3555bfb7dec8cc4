use Rattle.fax_walk.proofs.SalvageLawLemmas.{salvaged_one_way}
use Rattle.fax_walk.proofs.laws.files_are_salvaged_in_one_way.Goals as goal

pub returns : goal.returns
returns c = salvaged_one_way c.strips_are_salvaged_in_one_way.ensures
