use Rattle.std.proofs.Common.{arith}
use Rattle.fax_c.proofs.NoteLemmas.{one_more}
use Rattle.fax_c.proofs.file_report.put_notes.Goals as goal

pub loop-i-preserved : goal.loop-i-preserved
loop-i-preserved c =
    one_more c.args.found.now c.loop-i.i _ c.of.result c.args.notes.now c.loop-i.notes c.loop-i.invariant c.of.ensures
    (omega (arith, c.loop-i-test.true, c.min-count.ensures)) (omega (arith, c.loop-i-test.true, c.min-count.ensures))
