use Rattle.std.proofs.Common.{rules, arith}
use Prim.{search}
use Rattle.fax_rows.proofs.ChosenStepLemmas.{left_of_b2}
use Rattle.fax_rows.proofs.ReadOnLemmas.{asked_or_not, vertical_read, vertical_found}
use Rattle.fax_rows.proofs.two_dimensional.modes.vertical.Goals as goal

pub returns-then-d-lt0-clause-read : goal.returns-then-d-lt0-clause-read
returns-then-d-lt0-clause-read g c b taken =
    vertical_found _ _ c.ok_or.result c.requires.inside taken (search rules) (search rules) (grind (arith, left_of_b2))

pub returns-then-d-eq0-clause-read : goal.returns-then-d-eq0-clause-read
returns-then-d-eq0-clause-read g c b taken = asked_or_not (c.vertical_0_batch.ensures.read b (search (rules, taken)))

pub returns-then-is_taken-clause-read : goal.returns-then-is_taken-clause-read
returns-then-is_taken-clause-read g c b taken =
    vertical_read c.requires.inside taken (search rules) (search rules) (search rules)
