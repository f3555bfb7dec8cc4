use Rattle.std.proofs.Common.{arith}
use Rattle.fax_c.proofs.PackedLenLemmas.{has_packed_len}
use Rattle.fax_c.proofs.PaddedLemmas.{padded}
use Rattle.fax_c.proofs.raster.put_in_stride.Goals as goal

pub returns : goal.returns
returns c =
    padded c.args.stride c.args.row.now c.args.out.now c.put_packed-end.new.out c.put_zeros_to.new.out c.args.at
    c.put_packed-end.result c.requires.short c.requires.room c.put_packed-end.ensures c.put_zeros_to.ensures

pub put_zeros_to-requires-clause-order : goal.put_zeros_to-requires-clause-order
put_zeros_to-requires-clause-order c =
    omega (arith, c.put_packed-end.ensures.0, has_packed_len c.args.row.now, c.requires.short)
