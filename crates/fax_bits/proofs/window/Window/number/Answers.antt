use Rattle.std.proofs.Common.{arith}
use Rattle.std.proofs.lemmas.Grind.{common_steps}
use Rattle.std.proofs.Math.Pow.{pow_mono}
use Rattle.fax_bits.proofs.WordLemmas.{bits-past}
use Rattle.fax_bits.proofs.WindowLemmas.{next_number, past_number, next-lt}
use Rattle.fax_bits.proofs.window.Window.number.Goals as goal

pub overflow_cast-result-2 : goal.overflow_cast-result-2
overflow_cast-result-2 c = grind (arith, pow_mono, next-lt)

pub returns : goal.returns
returns c = grind (arith, common_steps, next_number, past_number, bits-past)
