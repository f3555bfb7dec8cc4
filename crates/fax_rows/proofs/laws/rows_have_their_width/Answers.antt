use Rattle.fax_rows.proofs.WidthLemmas.{rows_have_their_width}
use Rattle.fax_rows.proofs.laws.rows_have_their_width.Goals as goal

pub returns : goal.returns
returns c = rows_have_their_width
