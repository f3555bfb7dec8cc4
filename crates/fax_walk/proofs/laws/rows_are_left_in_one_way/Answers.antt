use Rattle.fax_walk.proofs.PageLeftLemmas.{pages_left_in_file}
use Rattle.fax_walk.proofs.RowsLeftLemmas.{rows_left}
use Rattle.fax_walk.proofs.SalvagePlaceLemmas.{left_from_places}
use Rattle.fax_walk.proofs.laws.rows_are_left_in_one_way.Goals as goal

pub returns : goal.returns
returns c = record {
  one = rows_left c.strips_are_salvaged_in_one_way.ensures c.uncounted_rows_are_left_in_one_way.ensures;
  pages = pages_left_in_file c.strips_are_salvaged_in_one_way.ensures;
  places = left_from_places c.strips_are_salvaged_in_one_way.ensures;
}
