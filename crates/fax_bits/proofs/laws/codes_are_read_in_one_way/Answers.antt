use Rattle.fax_bits.proofs.CodeLemmas.{reads_one_way}
use Rattle.fax_bits.proofs.laws.codes_are_read_in_one_way.Goals as goal

pub returns : goal.returns
returns g c = reads_one_way g.T.CodeTable.table g.met.T.CodeTable.short_codes g.met.T.CodeTable.prefix_free
