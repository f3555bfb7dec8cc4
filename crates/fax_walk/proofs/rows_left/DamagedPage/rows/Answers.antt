use Rattle.fax_walk.proofs.RowsLeftLemmas.{page_started}
use Rattle.fax_walk.proofs.rows_left.DamagedPage.rows.Goals as goal

pub invariant_of-result : goal.invariant_of-result
invariant_of-result c = page_started _ _ c.in_ok-rows.rows c.in_ok-rows.ensures
