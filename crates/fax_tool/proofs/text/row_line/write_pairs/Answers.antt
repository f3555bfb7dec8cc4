use Rattle.std.proofs.Common.{arith, take}
use Rattle.fax_tool.proofs.RunTextLemmas.{eight_written}
use Rattle.fax_tool.proofs.text.row_line.write_pairs.Goals as goal

pub returns-clause-written : goal.returns-clause-written
returns-clause-written c =
    let place_of = c.pair_indexes-indexes.ensures in
    eight_written (take c.args.at c.args.bytes.now) _ _ _ _ c.args.numbers (omega arith)
    (c.write_pair-two.ensures.written _ _ (place_of 0 (omega arith)))
    (c.write_pair-four.ensures.written _ _ (place_of 1 (omega arith)))
    (c.write_pair-six.ensures.written _ _ (place_of 2 (omega arith)))
    (c.write_pair.ensures.written _ _ (place_of 3 (omega arith)))
