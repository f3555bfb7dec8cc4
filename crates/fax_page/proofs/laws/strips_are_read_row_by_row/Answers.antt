use Rattle.fax_page.proofs.ReaderLemmas.{read_row_by_row}
use Rattle.fax_page.proofs.laws.strips_are_read_row_by_row.Goals as goal

pub returns : goal.returns
returns c = read_row_by_row
