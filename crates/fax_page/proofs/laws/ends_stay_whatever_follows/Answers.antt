use Rattle.fax_page.proofs.EndFollowingLaws.{ends_stay}
use Rattle.fax_page.proofs.laws.ends_stay_whatever_follows.Goals as goal

pub returns : goal.returns
returns c = ends_stay c.lines_are_read_in_one_way.ensures c.rows_stay_whatever_follows.ensures
