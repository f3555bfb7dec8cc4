use Rattle.std.proofs.Common.{rules}
use Prim.{search}
use Rattle.fax_rows.proofs.two_dimensional.modes.horizontal.Goals as goal

pub returns-in_ok-past_runs-in-Ok-clause-read : goal.returns-in_ok-past_runs-in-Ok-clause-read
returns-in_ok-past_runs-in-Ok-clause-read g c = c.in_ok-past_runs-in-Ok.ensures.read _ _ (search rules)
