use Rattle.fax_rows.proofs.PlacedRowLemmas.{width_is}
use Rattle.fax_rows.proofs.pels.Row.width.Goals as goal

pub returns-clause-length : goal.returns-clause-length
returns-clause-length c = width_is c.self.invariant c.self.view_is
