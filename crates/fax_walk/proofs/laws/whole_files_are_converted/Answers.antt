use Rattle.fax_walk.proofs.SalvagedSameLemmas.{converted_is_salvaged}
use Rattle.fax_walk.proofs.laws.whole_files_are_converted.Goals as goal

pub returns : goal.returns
returns c = converted_is_salvaged (λ file. record {
  by_place = c.bits_stand_by_index.ensures;
  lines_read = c.lines_are_read_in_one_way.ensures;
  lines = c.lines_are_read_by_a_function.ensures;
  finds = c.whole_strips_are_found.ensures;
  salvages = c.strips_are_salvaged_in_one_way.ensures;
  wholes = c.forms_are_whole.ensures;
})
