use Rattle.fax_bits.specs.declared.Colour.TheVariants.{Black}
use Rattle.fax_bits.specs.code.TableLaws.{run_table_has_short_codes}
use Rattle.fax_bits.proofs.TableLemmas.{listed}
use Rattle.fax_bits.proofs.run_codes.BlackRunsCodeTable.entry.Goals as goal

pub returns-clause-not_empty : goal.returns-clause-not_empty
returns-clause-not_empty c = (run_table_has_short_codes Black _ (listed _ _ _ c.run_entry.ensures.found)).0

pub returns-clause-short : goal.returns-clause-short
returns-clause-short c = (run_table_has_short_codes Black _ (listed _ _ _ c.run_entry.ensures.found)).1
