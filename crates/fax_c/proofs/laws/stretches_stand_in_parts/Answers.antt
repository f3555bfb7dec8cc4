use Rattle.fax_c.proofs.StretchLemmas.{in_parts}
use Rattle.fax_c.proofs.laws.stretches_stand_in_parts.Goals as goal

pub returns : goal.returns
returns c = in_parts
