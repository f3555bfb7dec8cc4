use Rattle.fax_rows.proofs.FirstOtherLemmas.{none_ahead, some_ahead}
use Rattle.fax_rows.proofs.simd.first_other_in_byte.Goals as goal

pub returns-then-ahead-eq0 : goal.returns-then-ahead-eq0
returns-then-ahead-eq0 c =
    none_ahead c.args.byte c.args.from c.args.colour c.others.result c.ranges.byte.fits c.requires c.others.ensures
    c.if-ahead-eq0.true

pub returns-else-ahead-eq0 : goal.returns-else-ahead-eq0
returns-else-ahead-eq0 c =
    some_ahead c.args.byte c.args.from c.args.colour c.others.result c.ranges.byte.fits c.requires c.others.ensures
    c.if-ahead-eq0.false
