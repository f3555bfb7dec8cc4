use Rattle.std.proofs.Common.{arith}
use Rattle.fax_rows.proofs.PlacedStepLemmas.{pass_step, pass_so_far, b1_in_room}
use Rattle.fax_rows.proofs.two_dimensional.steps.pass_mode.Goals as goal

pub bounds-reference-at : goal.bounds-reference-at
bounds-reference-at c = omega (arith, b1_in_room c.requires.inside)

pub returns-clause-step : goal.returns-clause-step
returns-clause-step c = pass_step c.requires.inside

pub returns-clause-so_far : goal.returns-clause-so_far
returns-clause-so_far c = pass_so_far c.requires.inside
