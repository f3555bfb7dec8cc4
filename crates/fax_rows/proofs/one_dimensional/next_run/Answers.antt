use Rattle.std.proofs.Common.{arith}
use Rattle.fax_rows.proofs.RunReadLemmas.{run_read}
use Rattle.fax_rows.proofs.one_dimensional.next_run.Goals as goal

pub returns-in-Some-clause-read : goal.returns-in-Some-clause-read
returns-in-Some-clause-read c =
    (run_read c.args.width c.args.runs.now.total c.in-Some.pels c.in-Some.ensures.run (omega (
      arith,
      c.in-Some.ensures.few,
      c.requires.within,
    ))).0
