use Rattle.fax_rows.proofs.WhiteRowLemmas.{is_white_row, white_bytes}
use Rattle.fax_rows.proofs.pels.Row.is_white.Goals as goal

pub returns-clause-white : goal.returns-clause-white
returns-clause-white c = is_white_row c.self.invariant c.self.view_is

pub returns-clause-zeros : goal.returns-clause-zeros
returns-clause-zeros c is = white_bytes c.args.self.now ((is_white_row c.self.invariant c.self.view_is).0 is)
