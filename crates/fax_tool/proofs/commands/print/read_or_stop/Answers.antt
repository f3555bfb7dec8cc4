use Rattle.std.proofs.Common.{rules}
use Rattle.fax_tool.proofs.CommandLemmas.{unread}
use Rattle.fax_tool.proofs.commands.print.read_or_stop.Goals as goal

pub returns-in_default-clause-err : goal.returns-in_default-clause-err
returns-in_default-clause-err g c =
    unread _ c.in-Err.refusal _ (g.W.Sink.written c.args.out.now) _ c.in_default.not-Memory c.in-Err.ensures.reason
    (rw c.requires.counts (search rules))
