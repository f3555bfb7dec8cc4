use Rattle.fax_walk.proofs.NameLemmas.{texts_name_one}
use Rattle.fax_walk.proofs.ShortLemmas.{cursors_are_short, places_are_short}
use Rattle.fax_walk.proofs.laws.cursors_are_named.Goals as goal

pub returns : goal.returns
returns c = record {
  cursors = cursors_are_short c.forms_are_whole.ensures c.files_have_one_chain.ensures;
  places = places_are_short c.lines_are_read_in_one_way.ensures c.forms_are_whole.ensures
      c.files_have_one_chain.ensures;
  one = texts_name_one;
}
