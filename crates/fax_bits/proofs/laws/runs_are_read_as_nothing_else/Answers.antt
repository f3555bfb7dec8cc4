use Rattle.fax_bits.proofs.RunReadBackLemmas.{run_bits_are_one_run}
use Rattle.fax_bits.proofs.laws.runs_are_read_as_nothing_else.Goals as goal

pub returns : goal.returns
returns c = run_bits_are_one_run
