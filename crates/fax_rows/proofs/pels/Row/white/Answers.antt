use Rattle.std.proofs.Common.{arith}
use Rattle.fax_rows.proofs.TurnLemmas.{length-pels_of_changes}
use Rattle.fax_rows.proofs.PlacedRowLemmas.{white_by}
use Rattle.fax_rows.proofs.pels.Row.white.Goals as goal

pub returns-clause-pels : goal.returns-clause-pels
returns-clause-pels c = grind (arith, white_by)

pub returns-clause-same_width : goal.returns-clause-same_width
returns-clause-same_width c = length-pels_of_changes c.args.width _
