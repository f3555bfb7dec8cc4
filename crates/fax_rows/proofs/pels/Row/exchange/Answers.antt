use Rattle.std.proofs.Common.{arith}
use Rattle.std.proofs.lemmas.Grind.{common_steps}
use Rattle.fax_rows.proofs.PlacedExchangeLemmas.{exchanged}
use Rattle.fax_rows.proofs.pels.Row.exchange.Goals as goal

pub returns : goal.returns
returns c = grind (arith, common_steps, exchanged)
