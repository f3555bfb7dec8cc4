use Rattle.std.proofs.Common.{refl}
use Rattle.fax_bits.specs.Bits.{code_bits}
use Rattle.fax_bits.proofs.pending.PendingBits.none.Goals as goal

pub returns : goal.returns
unfolding code_bits
returns c = refl
