use Rattle.fax_walk.proofs.TailLawLemmas.{items_know_their_form}
use Rattle.fax_walk.proofs.RowLawLemmas.{same_page}
use Rattle.fax_walk.proofs.laws.cursors_name_one_page.Goals as goal

pub returns : goal.returns
returns c = record { pages = same_page; forms = items_know_their_form }
