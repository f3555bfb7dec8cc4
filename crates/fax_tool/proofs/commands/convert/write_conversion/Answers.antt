use Rattle.std.proofs.Common.{refl, rules}
use Rattle.clap.proofs.TakesLemmas.{passed_up}
use Rattle.fax_tool.specs.declared.args.Command.TheVariants.{Convert}
use Rattle.fax_tool.proofs.CommandLemmas.{whole_unread, without_memory}
use Rattle.fax_tool.proofs.WholeLemmas.{converted, conversion_stopped, not_converted}
use Rattle.fax_tool.proofs.commands.convert.write_conversion.Goals as goal

pub returns-in_err-answer-clause-err : goal.returns-in_err-answer-clause-err
returns-in_err-answer-clause-err g c =
    passed_up c.from_residual.result _ _ c.from_residual.ensures.1
    (whole_unread (Convert c.args.options) (λ file. refl) (g.R.Source.remaining c.args.input.now) _ _
    (g.W.Sink.written c.args.out.now) _
    (rw c.requires.counts (search rules)) _ c.in_err-answer.ensures.reason)

pub returns-in_err-block-in-Ok-clause-err : goal.returns-in_err-block-in-Ok-clause-err
returns-in_err-block-in-Ok-clause-err g c =
    passed_up c.from_residual-in_err-block-in-Ok.result _ _ c.from_residual-in_err-block-in-Ok.ensures.1
    (rw c.in_err-block-in-Ok.ensures.memory (without_memory (Convert c.args.options) (λ file. refl)
    (g.R.Source.remaining c.args.input.now) _ _
    (g.W.Sink.written c.args.out.now) _
    (rw c.requires.counts (search rules)) c.in_ok-answer.ensures.read))

pub returns-in_err-write_parts-in-Ok-clause-err : goal.returns-in_err-write_parts-in-Ok-clause-err
returns-in_err-write_parts-in-Ok-clause-err g c =
    let final_end = c.in_ok-answer.ensures in
    let is = rw c.in-Ok.is at final_end.converts.2 in
    passed_up c.from_residual-in_err-write_parts-in-Ok.result _ _ c.from_residual-in_err-write_parts-in-Ok.ensures.1
    (conversion_stopped (g.R.Source.remaining c.args.input.now) final_end.converts.0 final_end.converts.1 _ _
    final_end.read
    c.args.options (g.W.Sink.written c.args.out.now) _ _ c.in-Ok.output _ is c.in_err-write_parts-in-Ok.ensures.err)

pub returns-in_ok-write_parts-in-Ok-clause-ok : goal.returns-in_ok-write_parts-in-Ok-clause-ok
returns-in_ok-write_parts-in-Ok-clause-ok g c =
    let final_end = c.in_ok-answer.ensures in
    let is = rw c.in-Ok.is at final_end.converts.2 in
    converted (g.R.Source.remaining c.args.input.now) final_end.converts.0 final_end.converts.1 _ _ final_end.read
    c.args.options (g.W.Sink.written c.args.out.now) _ _ c.in-Ok.output is c.in_ok-write_parts-in-Ok.ensures.ok
    c.in_ok-write_parts-in-Ok.ensures.worked

pub returns-in_err-conversion_line-in-Err-clause-err : goal.returns-in_err-conversion_line-in-Err-clause-err
returns-in_err-conversion_line-in-Err-clause-err g c =
    passed_up c.from_residual-in_err-conversion_line-in-Err.result _ _
    c.from_residual-in_err-conversion_line-in-Err.ensures.1
    (without_memory (Convert c.args.options) (λ file. refl) (g.R.Source.remaining c.args.input.now) _ _
    (g.W.Sink.written c.args.out.now) _
    (rw c.requires.counts (search rules)) c.in_ok-answer.ensures.read)

pub returns-in_ok-conversion_line-in-Err-clause-ok : goal.returns-in_ok-conversion_line-in-Err-clause-ok
returns-in_ok-conversion_line-in-Err-clause-ok g c =
    let final_end = c.in_ok-answer.ensures in
    let refused = rw c.in-Err.is at final_end.converts.3 in
    not_converted (g.R.Source.remaining c.args.input.now) final_end.converts.0 final_end.converts.1 _ _ final_end.read
    c.args.options (g.W.Sink.written c.args.out.now) (g.W.Sink.written c.args.out.now) _ c.in-Err.fault _ refused
    c.in_ok-conversion_line-in-Err.ensures (rw c.requires.counts (search rules))
