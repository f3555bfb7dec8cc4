use Rattle.std.proofs.Common.{◌∙◌, arith}
use Rattle.fax_bits.specs.Tables.{modes}
use Rattle.fax_bits.specs.code.TableLaws.{length-modes, modes_has_short_codes, modes_is_prefix_free}
use Rattle.fax_bits.proofs.IndexLemmas.{mode_index}
use Rattle.fax_bits.proofs.TableIndexLemmas.{found_by_index, none_by_index, aligned_fits}
use Rattle.fax_bits.proofs.mode_codes.ModesCodeTable.find.Goals as goal

pub bounds-bits : goal.bounds-bits
bounds-bits c = omega (arith, aligned_fits c.args.n c.args.window c.requires.few c.requires.fits)

pub returns-then-index-lt-MODE_ENTRIES : goal.returns-then-index-lt-MODE_ENTRIES
returns-then-index-lt-MODE_ENTRIES c =
    let index = c.from-index.ensures ∙ mode_index _ (aligned_fits c.args.n c.args.window c.requires.few c.requires.fits)
    in
    found_by_index modes modes_has_short_codes modes_is_prefix_free c.args.n c.args.window c.from-index.result
    c.requires.few c.requires.fits index c.entry.result c.entry.ensures.found c.within.result c.within.ensures

pub returns-else-index-lt-MODE_ENTRIES : goal.returns-else-index-lt-MODE_ENTRIES
returns-else-index-lt-MODE_ENTRIES c =
    let index = c.from-index.ensures ∙ mode_index _ (aligned_fits c.args.n c.args.window c.requires.few c.requires.fits)
    in
    none_by_index modes modes_has_short_codes modes_is_prefix_free c.args.n c.args.window c.from-index.result
    c.requires.few c.requires.fits index (omega (arith, length-modes, c.if-index-lt-MODE_ENTRIES.false))
