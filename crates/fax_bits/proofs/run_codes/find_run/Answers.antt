use Rattle.std.proofs.Common.{arith}
use Rattle.fax_bits.specs.Tables.{run_table}
use Rattle.fax_bits.specs.code.TableLaws.{length-run_table, run_table_has_short_codes, run_table_is_prefix_free}
use Rattle.fax_bits.proofs.TableIndexLemmas.{found_by_index, none_by_index, aligned_fits}
use Rattle.fax_bits.proofs.run_codes.find_run.Goals as goal

pub run_index-index-requires : goal.run_index-index-requires
run_index-index-requires c = aligned_fits c.args.n c.args.window c.requires.few c.requires.fits

pub returns-then-index-lt-RUN_ENTRIES : goal.returns-then-index-lt-RUN_ENTRIES
returns-then-index-lt-RUN_ENTRIES c =
    let colour = c.args.colour in
    found_by_index (run_table colour) (run_table_has_short_codes colour) (run_table_is_prefix_free colour) c.args.n
    c.args.window
    c.run_index-index.result c.requires.few c.requires.fits c.run_index-index.ensures c.run_entry.result
    c.run_entry.ensures.found
    c.within.result c.within.ensures

pub returns-else-index-lt-RUN_ENTRIES : goal.returns-else-index-lt-RUN_ENTRIES
returns-else-index-lt-RUN_ENTRIES c =
    let colour = c.args.colour in
    none_by_index (run_table colour) (run_table_has_short_codes colour) (run_table_is_prefix_free colour) c.args.n
    c.args.window
    c.run_index-index.result c.requires.few c.requires.fits c.run_index-index.ensures
    (omega (arith, length-run_table colour, c.if-index-lt-RUN_ENTRIES.false))
