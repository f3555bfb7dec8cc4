use Rattle.std.proofs.Common.{arith}
use Rattle.fax_bits.proofs.AheadLemmas.{fits_in_number}
use Rattle.fax_bits.proofs.LookUpLemmas.{pair_begins, horizontal_pair_begins}
use Rattle.fax_bits.proofs.look_up.find_horizontal_pair.Goals as goal

pub overflow_add-result : goal.overflow_add-result
overflow_add-result c = omega (arith, fits_in_number 13 _ (pair_begins _ _ _ c.in_ok-len.ensures))

pub returns : goal.returns
returns c = grind (arith, horizontal_pair_begins)
