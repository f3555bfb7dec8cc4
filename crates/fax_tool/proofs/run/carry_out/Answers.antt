use Rattle.clap.proofs.TakesLemmas.{passed_up}
use Rattle.fax_tool.proofs.WholeLemmas.{none_read, version_said, version_stopped}
use Rattle.fax_tool.proofs.run.carry_out.Goals as goal

pub returns-in_err-version-in-Version-clause-err : goal.returns-in_err-version-in-Version-clause-err
returns-in_err-version-in-Version-clause-err g c =
    let read = none_read (g.R.Source.remaining c.args.input.now) _ _ c.requires.input_counts c.requires.taken in
    passed_up c.from_residual.result _ _ c.from_residual.ensures.1
    (rw c.in-Version.is (version_stopped _ _ _ read _ _ _ _ c.in_err-version-in-Version.ensures.err))

pub returns-in_ok-version-in-Version-clause-ok : goal.returns-in_ok-version-in-Version-clause-ok
returns-in_ok-version-in-Version-clause-ok g c =
    let read = none_read (g.R.Source.remaining c.args.input.now) _ _ c.requires.input_counts c.requires.taken in
    rw c.in-Version.is
    (version_said _ _ _ read _ _ _ c.in_ok-version-in-Version.ensures.ok c.in_ok-version-in-Version.ensures.worked)
