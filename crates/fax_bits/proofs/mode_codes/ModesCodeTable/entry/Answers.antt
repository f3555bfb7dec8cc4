use Rattle.std.proofs.lemmas.Option.{slice_get-get_or}
use Rattle.fax_bits.specs.Tables.{modes}
use Rattle.fax_bits.specs.code.TableLaws.{modes_has_short_codes}
use Rattle.fax_bits.proofs.TableLemmas.{listed}
use Rattle.fax_bits.proofs.mode_codes.ModesCodeTable.entry.Goals as goal

pub returns-clause-found : goal.returns-clause-found
unfolding modes
returns-clause-found c = slice_get-get_or modes c.args.i _ c.requires

pub returns-clause-not_empty : goal.returns-clause-not_empty
returns-clause-not_empty c = (modes_has_short_codes _ (listed _ _ _ (returns-clause-found c))).0

pub returns-clause-short : goal.returns-clause-short
returns-clause-short c = (modes_has_short_codes _ (listed _ _ _ (returns-clause-found c))).1
