use Rattle.fax_rows.proofs.WrittenLemmas.{one_dimensional_back}
use Rattle.fax_rows.proofs.laws.one_dimensional_rows_are_read_back.Goals as goal

pub returns : goal.returns
returns c = one_dimensional_back c.runs_are_read_back.ensures
