use Rattle.fax_walk.proofs.SalvagePlaceLemmas.{next_from}
use Rattle.fax_walk.proofs.rows_from.RowsFrom.next_part.Goals as goal

pub returns : goal.returns
returns c =
    rw (← c.self.view_is) (next_from c.self.inside.rows c.next_part.new.self c.next_part.result c.next_part.ensures)
