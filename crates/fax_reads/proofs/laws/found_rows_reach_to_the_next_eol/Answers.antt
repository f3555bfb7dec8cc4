use Rattle.fax_reads.proofs.EolLemmas.{found_reach}
use Rattle.fax_reads.proofs.laws.found_rows_reach_to_the_next_eol.Goals as goal

pub returns : goal.returns
returns c = found_reach
