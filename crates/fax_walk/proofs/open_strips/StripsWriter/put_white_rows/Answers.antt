use Rattle.std.proofs.Common.{◌-◌, arith}
use Rattle.fax_walk.proofs.OpenStripsLemmas.{more_white}
use Rattle.fax_walk.proofs.open_strips.StripsWriter.put_white_rows.Goals as goal

pub loop-remaining-preserved : goal.loop-remaining-preserved
loop-remaining-preserved c =
    let remaining = c.loop-remaining.remaining in
    let n = c.in_ok-remaining.field-0 in
    let within = c.loop-remaining.invariant.within in
    let few = c.in_ok-remaining.ensures.few in record {
      within = omega (arith, within);
      put =
          more_white c.args.self.now c.loop-remaining.self c.put_white_part.new.self (c.args.count - remaining) n
          (c.args.count - (remaining - n)) c.loop-remaining.invariant.put c.in_ok-remaining.ensures.put
          (omega (arith, within, few));
    }
