use Rattle.std.proofs.Common.{arith}
use Rattle.std.proofs.lemmas.Bool.Decides.{nat_tests}
use Rattle.fax_bits.proofs.ZeroRunLemmas.{zeros_seen}
use Rattle.fax_bits.proofs.zero_runs.has_eleven_zeros.Goals as goal

pub returns : goal.returns
returns c = λ none i within zeros. zeros_seen c.args.word i c.ranges.word.fits within zeros (grind
    (arith, nat_tests, none))
