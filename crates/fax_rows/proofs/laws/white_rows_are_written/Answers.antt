use Rattle.fax_rows.proofs.WhiteRowLemmas.{white_1d, white_2d, white_packed}
use Rattle.fax_rows.proofs.laws.white_rows_are_written.Goals as goal

pub returns : goal.returns
returns c = record { one_dimensional = white_1d; two_dimensional = white_2d; packed = white_packed }
