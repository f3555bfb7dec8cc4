use Rattle.fax_rows.proofs.PackedLaws.{packing_undoes_unpacking}
use Rattle.fax_rows.proofs.laws.packing_undoes_unpacking.Goals as goal

pub returns : goal.returns
returns c = packing_undoes_unpacking c.bits_stand_by_index.ensures c.bits_are_packed_in_one_way.ensures
