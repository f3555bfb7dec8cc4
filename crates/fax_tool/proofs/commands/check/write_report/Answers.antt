use Rattle.std.proofs.Common.{◌∙◌, refl, rules}
use Rattle.clap.proofs.TakesLemmas.{passed_up}
use Rattle.fax_tool.specs.declared.args.Command.TheVariants.{Check}
use Rattle.fax_tool.proofs.CommandLemmas.{whole_unread}
use Rattle.fax_tool.proofs.WholeLemmas.{checked, check_stopped}
use Rattle.fax_tool.proofs.commands.check.write_report.Goals as goal

pub returns-in_err-file-clause-err : goal.returns-in_err-file-clause-err
returns-in_err-file-clause-err g c =
    passed_up c.from_residual.result _ _ c.from_residual.ensures.1
    (whole_unread (Check c.args.received) (λ file. refl) (g.R.Source.remaining c.args.input.now) _ _ (g.W.Sink.written
    c.args.out.now) _
    (rw c.requires.counts (search rules)) _ c.in_err-file.ensures.reason)

pub returns-in_err-write_all-clause-err : goal.returns-in_err-write_all-clause-err
returns-in_err-write_all-clause-err g c =
    let is = rw c.deref.ensures.value at c.in_ok-report.ensures in
    passed_up c.from_residual-in_err-write_all.result _ _ c.from_residual-in_err-write_all.ensures.1
    (check_stopped (g.R.Source.remaining c.args.input.now) c.in_ok-file.file.items c.in_ok-file.ensures.whole _ _
    c.in_ok-file.ensures.read
    (g.W.Sink.written c.args.out.now) _ _ c.args.received c.in_ok-report.report is c.as_bytes.result.now
    (c.as_bytes.ensures.value ∙ c.in_ok-text.ensures) _
    c.in_err-write_all.ensures.err)

pub returns-clause-ok : goal.returns-clause-ok
returns-clause-ok g c =
    let is = rw c.deref.ensures.value at c.in_ok-report.ensures in
    checked (g.R.Source.remaining c.args.input.now) c.in_ok-file.file.items c.in_ok-file.ensures.whole _ _
    c.in_ok-file.ensures.read
    (g.W.Sink.written c.args.out.now) _ _ c.args.received c.in_ok-report.report is c.as_bytes.result.now
    (c.as_bytes.ensures.value ∙ c.in_ok-text.ensures) _
    c.in_ok-write_all.ensures.ok c.in_ok-write_all.ensures.worked c.fault_line.ensures.error c.fault_line.ensures.status
