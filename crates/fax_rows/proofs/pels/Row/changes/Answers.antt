use Rattle.fax_rows.proofs.PlacedRowLemmas.{changes_are}
use Rattle.std.proofs.Common.{arith}
use Rattle.fax_rows.proofs.pels.Row.changes.Goals as goal

pub returns : goal.returns
returns c = grind (arith, changes_are)
