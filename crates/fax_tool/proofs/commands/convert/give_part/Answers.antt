use Rattle.std.proofs.Common.{replicate}
use Rattle.clap.proofs.TakesLemmas.{passed_up}
use Rattle.fax_tool.proofs.TransferLemmas.{first_given_in_part, second_given_err}
use Rattle.fax_tool.proofs.commands.convert.give_part.Goals as goal

pub returns-in_err-write_all-clause-err : goal.returns-in_err-write_all-clause-err
returns-in_err-write_all-clause-err g c =
    passed_up c.from_residual.result _ _ c.from_residual.ensures.1
    (first_given_in_part (g.W.Sink.written c.args.out.now) (g.W.Sink.written c.write_all.new.out) c.args.part.held.now
    (replicate c.args.part.zeros 0) _ _ c.in_err-write_all.ensures.err)

pub returns-clause-err : goal.returns-clause-err
returns-clause-err g c =
    second_given_err (g.W.Sink.written c.args.out.now) (g.W.Sink.written c.write_all.new.out)
    (g.W.Sink.written c.give_zeros.new.out) c.args.part.held.now (replicate c.args.part.zeros 0) _ c.give_zeros.result
    c.in_ok-write_all.ensures.ok c.give_zeros.ensures.err
