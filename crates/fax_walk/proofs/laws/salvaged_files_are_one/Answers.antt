use Rattle.fax_walk.proofs.SalvagedFileLawLemmas.{salvaged_to_one}
use Rattle.fax_walk.proofs.laws.salvaged_files_are_one.Goals as goal

pub returns : goal.returns
returns c = salvaged_to_one c.strips_are_salvaged_in_one_way.ensures
