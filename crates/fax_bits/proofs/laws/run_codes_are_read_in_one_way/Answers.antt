use Rattle.fax_bits.specs.Tables.{run_table}
use Rattle.fax_bits.proofs.CodeLemmas.{reads_one_way}
use Rattle.fax_bits.proofs.RunReadBackLemmas.{runs_are_one}
use Rattle.fax_bits.specs.code.TableLaws.{run_table_has_short_codes, run_table_is_prefix_free}
use Rattle.fax_bits.proofs.laws.run_codes_are_read_in_one_way.Goals as goal

pub returns : goal.returns
returns c = λ colour. record {
  codes = reads_one_way (run_table colour) (run_table_has_short_codes colour) (run_table_is_prefix_free colour);
  run = runs_are_one colour;
}
