use Rattle.std.proofs.lemmas.Grind.{common_steps}
use Rattle.std.proofs.Common.{arith}
use Rattle.fax_rows.proofs.RunReadLemmas.{run_front, is_run}
use Rattle.fax_rows.proofs.runs.run_by_table.Goals as goal

pub returns-clause-read : goal.returns-clause-read
returns-clause-read c = grind (arith, common_steps, run_front)

pub returns-clause-ok : goal.returns-clause-ok
returns-clause-ok c = is_run c.args.colour c.args.width c.args.from c.in_ok-run.run'.pels _ _ (returns-clause-read c)
