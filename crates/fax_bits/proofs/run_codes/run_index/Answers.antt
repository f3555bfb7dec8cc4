use Rattle.std.proofs.Common.{◌∙◌}
use Rattle.fax_bits.proofs.IndexLemmas.{white_index, white_long_index, black_index, black_long_index}
use Rattle.fax_bits.proofs.run_codes.run_index.Goals as goal

pub returns-in-White : goal.returns-in-White
returns-in-White c = rw c.in-White.is (c.from.ensures ∙ white_long_index c.args.bits c.if-at-lt64.true)

pub returns-in-White-2 : goal.returns-in-White-2
returns-in-White-2 c = rw c.in-White-2.is (c.from-in-White-2.ensures
    ∙ white_index c.args.bits c.if-at-lt64.false c.requires)

pub returns-in-Black : goal.returns-in-Black
returns-in-Black c = rw c.in-Black.is (c.from-in-Black.ensures ∙ black_long_index c.args.bits c.if-at-lt512.true)

pub returns-in-Black-2 : goal.returns-in-Black-2
returns-in-Black-2 c = rw c.in-Black-2.is (c.from-in-Black-2.ensures
    ∙ black_index c.args.bits c.if-at-lt512.false c.requires)
