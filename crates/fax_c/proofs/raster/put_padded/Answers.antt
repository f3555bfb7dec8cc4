use Rattle.std.proofs.Common.{arith, refl}
use Rattle.fax_c.proofs.PaddedLemmas.{length-padded, same_padded}
use Rattle.fax_c.proofs.raster.put_padded.Goals as goal

pub returns : goal.returns
returns c =
    let put = rw (c.max-size.ensures, c.packed_len.ensures, c.width.ensures.length) at c.put_in_stride.ensures in
    rw (same_padded c.args.stride c.args.row.now) at put

pub returns-then-out-at : goal.returns-then-out-at
returns-then-out-at c = (
  refl,
  omega (
    arith,
    c.if-out-at.true,
    length-padded c.args.stride c.args.row.now,
    c.packed_len.ensures,
    c.max-size.ensures,
    c.width.ensures.length,
  ),
)
