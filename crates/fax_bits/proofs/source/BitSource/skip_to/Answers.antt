use Rattle.std.proofs.Common.{ap, arith}
use Rattle.fax_bits.specs.views.Source.{Source}
use Rattle.fax_bits.proofs.SourceLemmas.{length-left_of}
use Rattle.fax_bits.proofs.source.BitSource.skip_to.Goals as goal

pub at_bit_offset-window-requires : goal.at_bit_offset-window-requires
at_bit_offset-window-requires c =
    let own = ap (λ (s : Source). s.place) c.self.view_is in
    record {
      within = omega (arith, own, c.requires.within, length-left_of _ _ _ _ c.self.view_is);
      counted = c.self.invariant.counted;
    }
