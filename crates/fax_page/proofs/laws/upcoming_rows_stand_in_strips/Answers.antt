use Rattle.fax_page.proofs.SalvagePlaceLaws.{upcoming_rows_stand}
use Rattle.fax_page.proofs.laws.upcoming_rows_stand_in_strips.Goals as goal

pub returns : goal.returns
returns c = upcoming_rows_stand c.lines_are_read_in_one_way.ensures
