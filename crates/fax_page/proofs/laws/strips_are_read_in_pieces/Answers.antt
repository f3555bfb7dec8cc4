use Rattle.fax_page.proofs.FollowingLaws.{in_pieces}
use Rattle.fax_page.proofs.laws.strips_are_read_in_pieces.Goals as goal

pub returns : goal.returns
returns c = in_pieces c.rows_stay_whatever_follows.ensures
