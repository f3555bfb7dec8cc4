use Rattle.fax_page.proofs.WriterLemmas.{begins_so, row_added, rows_added, finishes_so}
use Rattle.fax_page.proofs.laws.strips_are_written_row_by_row.Goals as goal

pub returns : goal.returns
returns c = record { begins = begins_so; goes_on = row_added; goes_on_by_rows = rows_added; finishes = finishes_so }
