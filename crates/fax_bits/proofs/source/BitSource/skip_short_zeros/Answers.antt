use Rattle.std.proofs.Common.{ap, arith}
use Rattle.fax_bits.specs.views.Source.{Source}
use Rattle.fax_bits.proofs.SourceLemmas.{length-left_of}
use Rattle.fax_bits.proofs.ZeroRunLemmas.{skipped}
use Rattle.fax_bits.proofs.source.BitSource.skip_short_zeros.Goals as goal

pub skip_to-requires-clause-within : goal.skip_to-requires-clause-within
skip_to-requires-clause-within c =
    let own = ap (λ (s : Source). s.place) c.self.view_is in
    omega (arith, own, c.skip_short_zeros-at.ensures.within, length-left_of _ _ _ _ c.self.view_is)

pub returns-then-at-byte : goal.returns-then-at-byte
returns-then-at-byte c =
    skipped _ _ _ c.skip_short_zeros-at.result _ _ c.self.view_is c.skip_short_zeros-at.ensures.within
    (omega (arith, c.place-place.ensures, c.if-at-byte.true)) (rw (← c.place-place.ensures)
    c.skip_short_zeros-at.ensures.none) c.skip_to.ensures
