use Rattle.std.proofs.Common.{arith}
use Rattle.fax_rows.proofs.UnderLemmas.{several_read, one_read}
use Rattle.fax_rows.proofs.two_dimensional.vertical_0_batches.vertical_0_batch.Goals as goal

pub returns-then-ones-lt-LEAST_MORE-clause-read : goal.returns-then-ones-lt-LEAST_MORE-clause-read
returns-then-ones-lt-LEAST_MORE-clause-read c b taken =
    one_read c.args.reference c.args.changes.now c.vertical_0.new.changes c.args.at c.vertical_0.result b
    c.args.source.now.remaining taken
    c.requires.inside c.vertical_0.ensures.step c.vertical_0.ensures.so_far

pub returns-clause-read : goal.returns-clause-read
returns-clause-read c b taken =
    several_read c.args.reference c.args.changes.now c.copy_eight.new.changes c.args.at c.skip_ones.result
    c.colour_after.result b
    c.args.source.now.remaining c.skip_ones.new.self.remaining c.modes_are_read_back.ensures taken
    c.skip_ones.ensures.ones
    c.requires.inside (omega (arith, c.skip_ones.ensures.few)) c.copy_eight.ensures.same_len
    c.copy_eight.ensures.kept
    (λ i h. c.copy_eight.ensures.copied i (omega (arith, c.skip_ones.ensures.few))) c.colour_after.ensures
