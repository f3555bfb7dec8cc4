use Rattle.std.proofs.Common.{◌++◌, replicate, false, arith, sym, subst}
use Rattle.fax_page.specs.Strip.{coded_bits, coded_strip}
use Rattle.fax_page.specs.laws.Uncounted.{IsUncounted}
use Rattle.fax_page.specs.laws.Uncounted.{written_end}
use Rattle.fax_page.proofs.UncountedLaws.{written_is_uncounted}
use Rattle.fax_page.proofs.WrittenLaws.{coded_lines_back}
use Rattle.fax_page.proofs.laws.coded_strips_are_read_uncounted.Goals as goal

pub returns : goal.returns
unfolding coded_strip
returns c = λ form k rows limits fit.
    let padded = c.bits_are_packed_in_one_way.ensures.padded form.order (coded_bits form k rows) in
    subst (λ b. IsUncounted form b rows (written_end form.coding)) (sym padded.2)
    (written_is_uncounted form (coded_bits form k rows ++ replicate padded.0 false) rows padded.0 limits.few_rows
    (omega (arith, fit.count, limits.some_rows))
    (coded_lines_back c.one_dimensional_rows_are_read_back.ensures c.two_dimensional_rows_are_read_back.ensures form
    limits k rows
    (replicate padded.0 false) fit))
