use Rattle.std.proofs.Common.{◌∙◌}
use Rattle.fax_tool.proofs.TransferLemmas.{more_written}
use Rattle.fax_tool.proofs.streams.transfer.write_all.Goals as goal

pub loop-rest-preserved-in-Ok : goal.loop-rest-preserved-in-Ok
loop-rest-preserved-in-Ok g c = record {
  part = more_written _ (g.W.Sink.written c.loop-rest.out) _ _ _ c.in-Ok.count c.loop-rest.invariant.part
      c.in-Ok.ensures.bytes;
  counts = c.in-Ok.ensures.counts ∙ c.loop-rest.invariant.counts;
}
