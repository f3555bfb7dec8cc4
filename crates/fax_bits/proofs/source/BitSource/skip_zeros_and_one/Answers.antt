use Rattle.std.proofs.Common.{◌+◌, arith}
use Rattle.fax_bits.proofs.AheadLemmas.{zeros_taken, end_kept}
use Rattle.fax_bits.proofs.source.BitSource.skip_zeros_and_one.Goals as goal

pub returns-clause-past : goal.returns-clause-past
returns-clause-past c = λ _.
    let order = c.self.inside.order in
    let bytes = c.self.inside.bytes.now in
    let w = c.in-Some in
    let after = c.after-self-inside in (
      c.zeros-zeros.result,
      omega (arith, c.if-zeros-least.false),
      zeros_taken order bytes c.self.inside.window w.ahead c.args.self.now c.self.invariant c.self.view_is
          w.ensures.ahead
          w.ensures.place w.ensures.within c.zeros-zeros.result after.result (omega arith)
          (c.zeros-zeros.ensures.ahead order bytes (omega (arith, w.ensures.many))) after.ensures.count
          after.ensures.at,
    )

pub returns-clause-same_end : goal.returns-clause-same_end
returns-clause-same_end c =
    let order = c.self.inside.order in
    let bytes = c.self.inside.bytes.now in
    let w = c.in-Some in
    let after = c.after-self-inside in
    end_kept order bytes c.self.inside.window w.ahead c.args.self.now c.self.invariant c.self.view_is w.ensures.ahead
    w.ensures.place w.ensures.within (c.zeros-zeros.result + 1) after.result (omega arith) after.ensures.count
    after.ensures.at
