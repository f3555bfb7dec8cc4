use Rattle.std.proofs.Common.{arith}
use Rattle.fax_bits.proofs.ModeLemmas.{has_code}
use Rattle.fax_bits.proofs.put.vertical_code.Goals as goal

pub returns : goal.returns
returns c = rw (c.of.ensures, c.from-3.ensures, c.from-2.ensures, c.from.ensures) (has_code c.args.d c.requires).bits

pub of-requires-clause-fits : goal.of-requires-clause-fits
of-requires-clause-fits c = rw (c.from-2.ensures, c.from-3.ensures, c.from.ensures) (has_code c.args.d c.requires).fits

pub of-requires-clause-short : goal.of-requires-clause-short
of-requires-clause-short c = rw (c.from-3.ensures, c.from.ensures) (omega (arith, (has_code c.args.d c.requires).short))
