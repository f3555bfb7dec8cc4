use Rattle.std.proofs.Common.{inl, arith}
use Rattle.fax_bits.proofs.AheadLemmas.{fits_in_number, looked_up}
use Rattle.fax_bits.proofs.LookUpLemmas.{horizontal_pair_taken}
use Rattle.fax_bits.proofs.source.BitSource.try_read_horizontal.Goals as goal

pub after-self-inside-requires : goal.after-self-inside-requires
after-self-inside-requires c = grind (arith, fits_in_number)

pub returns : goal.returns
returns c =
    let w = c.in_ok-self-inside in
    let after = c.after-self-inside in
    let is =
    looked_up _ _ _ w.field-0 _ c.self.invariant c.self.view_is w.ensures.ahead w.ensures.place w.ensures.within 16
    (omega arith) w.ensures.many _ (c.number.ensures.number _ _ (inl w.ensures.many)) c.in_ok-len.ensures after.result
    after.ensures.count after.ensures.at in
    record {
      read = horizontal_pair_taken is.front c.args.self.now.remaining c.in_ok-len.pair _ is.meaning is.taken;
      within = c.if-end-width.false;
      unchanged = λ none. cc;
      same_end = is.same_end;
      shorter = λ some. is.shorter;
    }
