use Rattle.fax_page.proofs.LeftUncountedLaws.{first_rows, left_one_way}
use Rattle.fax_page.proofs.UncountedFoundLaws.{whole_uncounted}
use Rattle.fax_page.proofs.laws.uncounted_rows_are_left_in_one_way.Goals as goal

pub returns : goal.returns
returns c = record {
  one = left_one_way;
  first = first_rows c.strips_are_salvaged_in_one_way.ensures;
  whole = whole_uncounted c.lines_are_read_in_one_way.ensures;
}
