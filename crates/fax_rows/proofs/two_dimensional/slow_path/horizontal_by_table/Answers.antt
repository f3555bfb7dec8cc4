use Rattle.std.proofs.Common.{arith}
use Rattle.fax_rows.proofs.PlacedB1Lemmas.{length-element_pels}
use Rattle.fax_rows.proofs.two_dimensional.slow_path.horizontal_by_table.Goals as goal

pub returns-in_err-runs-clause-err : goal.returns-in_err-runs-clause-err
returns-in_err-runs-clause-err g c b needed = grind (arith, length-element_pels)
