use Rattle.fax_bits.proofs.RunReadBackLemmas.{run_bits_are_read}
use Rattle.fax_bits.proofs.laws.runs_are_read_back.Goals as goal

pub returns : goal.returns
returns c = run_bits_are_read
