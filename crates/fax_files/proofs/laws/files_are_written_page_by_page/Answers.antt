use Rattle.fax_files.proofs.PageByPageLemmas.{begins_so, page_added, finishes_so}
use Rattle.fax_files.proofs.laws.files_are_written_page_by_page.Goals as goal

pub returns : goal.returns
returns c = record { begins = begins_so; goes_on = page_added; finishes = finishes_so }
