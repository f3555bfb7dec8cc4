use Rattle.std.proofs.Common.{replicate, false, None, sym, subst}
use Rattle.fax_page.specs.laws.Lines.{IsStrip}
use Rattle.fax_page.specs.Strip.{coded_bits, coded_strip}
use Rattle.fax_page.proofs.laws.coded_strips_are_read_back.Goals as goal

pub returns : goal.returns
unfolding coded_strip
returns c = λ form k rows limits fit.
    let padded = c.bits_are_packed_in_one_way.ensures.padded form.order (coded_bits form k rows) in
    subst (λ b. IsStrip form b rows None) (sym padded.2)
    (c.coded_bits_are_read_back.ensures form k rows (replicate padded.0 false) limits fit)
