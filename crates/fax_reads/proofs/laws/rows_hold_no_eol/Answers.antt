use Rattle.fax_reads.proofs.EolLemmas.{no_eols}
use Rattle.fax_reads.proofs.laws.rows_hold_no_eol.Goals as goal

pub returns : goal.returns
returns c = no_eols
