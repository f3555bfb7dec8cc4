use Rattle.fax_rows.proofs.WrittenLemmas.{two_dimensional_back}
use Rattle.fax_rows.proofs.laws.two_dimensional_rows_are_read_back.Goals as goal

pub returns : goal.returns
returns c = λ reference row more limits same_width.
    two_dimensional_back c.runs_are_read_back.ensures c.modes_are_read_back.ensures reference row same_width limits more
