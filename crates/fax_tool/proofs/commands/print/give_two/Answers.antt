use Rattle.fax_tool.proofs.TransferLemmas.{first_given_in_part, second_given_err}
use Rattle.fax_tool.proofs.commands.print.give_two.Goals as goal

pub returns-in-Ok-clause-err : goal.returns-in-Ok-clause-err
returns-in-Ok-clause-err g c =
    second_given_err _ (g.W.Sink.written c.write_all.new.out) _ _ _ _ c.write_all-in-Ok.result c.in-Ok.ensures.ok
    c.write_all-in-Ok.ensures.err

pub returns-in-Err-clause-err : goal.returns-in-Err-clause-err
returns-in-Err-clause-err g c = first_given_in_part _ _ _ _ _ _ c.in-Err.ensures.err
