use Rattle.std.proofs.Common.{arith, take}
use Rattle.fax_tool.proofs.RunTextLemmas.{eight_written, two_written}
use Rattle.fax_tool.proofs.text.row_line.write_singly.Goals as goal

pub returns-clause-written : goal.returns-clause-written
returns-clause-written c =
    eight_written (take c.args.at c.args.bytes.now) _ _ _ _ c.args.numbers (omega arith)
    (two_written _ _ _ _ _ c.write_cached-one.ensures.written c.write_cached-two.ensures.written)
    (two_written _ _ _ _ _ c.write_cached-three.ensures.written c.write_cached-four.ensures.written)
    (two_written _ _ _ _ _ c.write_cached-five.ensures.written c.write_cached-six.ensures.written)
    (two_written _ _ _ _ _ c.write_cached-seven.ensures.written c.write_cached.ensures.written)
