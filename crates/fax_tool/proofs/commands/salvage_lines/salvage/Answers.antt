use Rattle.std.proofs.Common.{rules}
use Rattle.clap.proofs.TakesLemmas.{passed_up}
use Rattle.fax_tool.specs.declared.args.Command.TheVariants.{Salvage}
use Rattle.fax_tool.proofs.CommandLemmas.{whole_unread}
use Rattle.fax_tool.proofs.SalvageLineLemmas.{all_salvaged, end_stopped, end_unread, lines_stopped, no_line}
use Rattle.fax_tool.proofs.commands.salvage_lines.salvage.Goals as goal

pub returns-in_err-file-clause-err : goal.returns-in_err-file-clause-err
returns-in_err-file-clause-err g c =
    passed_up c.from_residual.result _ _ c.from_residual.ensures.1
    (whole_unread Salvage (no_line c.files_are_salvaged_in_one_way.ensures) (g.R.Source.remaining c.args.input.now) _ _
    (g.W.Sink.written c.args.out.now) _ (rw c.requires.counts (search rules)) _ c.in_err-file.ensures.reason)

pub returns-in_err-print_remains-clause-err : goal.returns-in_err-print_remains-clause-err
returns-in_err-print_remains-clause-err g c =
    let stops = rw (c.begin-remaining.ensures.file_is, c.deref.ensures.value) at c.in_err-print_remains.ensures.err in
    passed_up c.from_residual-in_err-print_remains.result _ _ c.from_residual-in_err-print_remains.ensures.1
    (lines_stopped (g.R.Source.remaining c.args.input.now) _ _ c.in_ok-file.file.items c.in_ok-file.ensures.whole
    c.in_ok-file.ensures.read _ _ stops)

pub returns-in_err-end-clause-err : goal.returns-in_err-end-clause-err
returns-in_err-end-clause-err g c =
    let lines = rw (c.begin-remaining.ensures.file_is, c.deref.ensures.value) at c.in_ok-print_remains.ensures.ok in
    passed_up c.from_residual-in_err-end.result _ _ c.from_residual-in_err-end.ensures.1
    (end_unread (g.R.Source.remaining c.args.input.now) _ _ c.in_ok-file.file.items c.in_ok-file.ensures.whole
    c.in_ok-file.ensures.read lines.0 lines.1 (g.W.Sink.written c.args.out.now) _ lines.2 _
    c.in_ok-print_remains.ensures.worked)

pub returns-in_err-write_all-clause-err : goal.returns-in_err-write_all-clause-err
returns-in_err-write_all-clause-err g c =
    let lines = rw (c.begin-remaining.ensures.file_is, c.deref.ensures.value) at c.in_ok-print_remains.ensures.ok in
    let rows = rw c.deref-2.ensures.value at c.in_ok-end.ensures in
    passed_up c.from_residual-in_err-write_all.result _ _ c.from_residual-in_err-write_all.ensures.1
    (end_stopped (g.R.Source.remaining c.args.input.now) _ _ c.in_ok-file.file.items c.in_ok-file.ensures.whole
    c.in_ok-file.ensures.read lines.0 lines.1 (g.W.Sink.written c.args.out.now) _ lines.2 rows.0 c.in_ok-end.end rows.1
    _ _ _ c.in_err-write_all.ensures.err)

pub returns-clause-ok : goal.returns-clause-ok
returns-clause-ok g c =
    let lines = rw (c.begin-remaining.ensures.file_is, c.deref.ensures.value) at c.in_ok-print_remains.ensures.ok in
    let rows = rw c.deref-2.ensures.value at c.in_ok-end.ensures in
    rw c.end_line.ensures
    (all_salvaged (g.R.Source.remaining c.args.input.now) _ _ c.in_ok-file.file.items c.in_ok-file.ensures.whole
    c.in_ok-file.ensures.read lines.0 lines.1 (g.W.Sink.written c.args.out.now) _ lines.2 rows.0 c.in_ok-end.end rows.1
    _ _ c.in_ok-write_all.ensures.ok c.in_ok-write_all.ensures.worked)
