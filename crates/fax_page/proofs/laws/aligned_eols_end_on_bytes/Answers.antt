use Rattle.std.proofs.Common.{arith}
use Rattle.fax_page.specs.Strip.{fill_zeros}
use Rattle.fax_page.proofs.laws.aligned_eols_end_on_bytes.Goals as goal

pub returns : goal.returns
unfolding fill_zeros
returns c = λ before. record { aligned = omega arith; least = λ fewer below here. omega (arith, below, here) }
