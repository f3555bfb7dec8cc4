use Rattle.std.proofs.Common.{arith}
use Rattle.fax_rows.proofs.PlacedB1Lemmas.{length-element_pels}
use Rattle.fax_rows.proofs.two_dimensional.modes.past_runs.Goals as goal

pub returns-clause-read : goal.returns-clause-read
returns-clause-read g c b rest read = grind (arith, length-element_pels)
