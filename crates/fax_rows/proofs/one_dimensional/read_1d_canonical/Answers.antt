use Rattle.std.proofs.Common.{arith}
use Rattle.std.proofs.lemmas.Grind.{common_steps}
use Rattle.fax_rows.proofs.TurnLemmas.{length-pels_of_changes}
use Rattle.fax_rows.proofs.PlacedRowLemmas.{width_is}
use Rattle.fax_rows.proofs.one_dimensional.read_1d_canonical.Goals as goal

pub returns-in-Ok-clause-read : goal.returns-in-Ok-clause-read
returns-in-Ok-clause-read c = grind (arith, common_steps, width_is)

pub returns-in-Ok-clause-same_width : goal.returns-in-Ok-clause-same_width
returns-in-Ok-clause-same_width c = grind (arith, length-pels_of_changes)

pub returns-in-Err-clause-read : goal.returns-in-Err-clause-read
returns-in-Err-clause-read c = grind (arith, common_steps, width_is)

pub returns-in-Err-clause-same_width : goal.returns-in-Err-clause-same_width
returns-in-Err-clause-same_width c = grind (arith, length-pels_of_changes)
