use Rattle.std.proofs.Common.{sym, arith}
use Rattle.fax_rows.proofs.TurnLemmas.{alternate-odd, alternate-even}
use Rattle.fax_rows.proofs.changes_of_row.colour_after.Goals as goal

pub returns-then-changes-eq1 : goal.returns-then-changes-eq1
returns-then-changes-eq1 c = sym (alternate-odd c.args.changes (omega arith))

pub returns-else-changes-eq1 : goal.returns-else-changes-eq1
returns-else-changes-eq1 c = grind (arith, alternate-even)
