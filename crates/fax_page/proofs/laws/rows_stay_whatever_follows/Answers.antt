use Rattle.fax_page.proofs.FollowingLaws.{stays_whatever_follows}
use Rattle.fax_page.proofs.laws.rows_stay_whatever_follows.Goals as goal

pub returns : goal.returns
returns c =
    stays_whatever_follows c.run_codes_are_read_in_one_way.ensures
    c.codes_are_read_in_one_way.ensures
