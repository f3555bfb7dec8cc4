use Rattle.std.proofs.Common.{inl, arith}
use Rattle.fax_bits.proofs.AheadLemmas.{fits_in_number, looked_up}
use Rattle.fax_bits.proofs.LookUpLemmas.{begins_more}
use Rattle.fax_bits.proofs.VerticalLemmas.{verticals_taken}
use Rattle.fax_bits.proofs.source.BitSource.try_read_verticals.Goals as goal

pub after-self-inside-requires : goal.after-self-inside-requires
after-self-inside-requires c =
    let origin = begins_more _ c.number.result c.in_ok-len.len c.in_ok-len.found c.in_ok-len.ensures in
    let short = fits_in_number 32 c.number.result origin in
    record { loaded = omega (arith, short, c.in_ok-self-inside.ensures.many); short = omega (arith, short) }

pub returns : goal.returns
returns c =
    let w = c.in_ok-self-inside in
    let after = c.after-self-inside in
    let origin = begins_more _ c.number.result c.in_ok-len.len c.in_ok-len.found c.in_ok-len.ensures in
    let is =
    looked_up _ _ _ w.field-0 _ c.self.invariant c.self.view_is w.ensures.ahead w.ensures.place w.ensures.within 32
    (omega arith) w.ensures.many _ (c.number.ensures.number _ _ (inl w.ensures.many)) origin after.result
    after.ensures.count after.ensures.at in
    record {
      read = verticals_taken is.front c.args.self.now.remaining c.in_ok-len.found _ is.meaning is.taken;
      unchanged = λ none. cc;
      same_end = is.same_end;
      shorter = λ some. is.shorter;
    }
