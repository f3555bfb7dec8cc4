use Rattle.std.proofs.Common.{arith}
use Rattle.std.proofs.lemmas.Grind.{common_steps}
use Rattle.fax_rows.proofs.PlacedRowLemmas.{white_row, width_is}
use Rattle.fax_rows.proofs.pels.Row.whiten.Goals as goal

pub returns : goal.returns
returns c = grind (arith, common_steps, white_row, width_is)
