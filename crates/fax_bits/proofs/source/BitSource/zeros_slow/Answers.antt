use Rattle.std.proofs.Common.{◌≡◌, ap, sym, ◌∙◌, subst, arith}
use Rattle.fax_bits.specs.views.Source.{HasLeadingZeros, Source}
use Rattle.fax_bits.specs.code.BitsAhead.{bits_ahead}
use Rattle.fax_bits.proofs.source.BitSource.zeros_slow.Goals as goal

pub returns-then-zeros-ahead : goal.returns-then-zeros-ahead
returns-then-zeros-ahead c =
    let order = c.self.inside.order in
    let bytes = c.self.inside.bytes.now in
    let remaining : bits_ahead order bytes c.filled-ahead.result ≡ c.args.self.now.remaining =
    c.filled-ahead.ensures.ahead ∙ c.self.invariant.bits_are ∙ ap (λ (s : Source). s.remaining) c.self.view_is in
    let stands = subst (λ b. HasLeadingZeros b c.zeros-zeros.result) remaining
    (c.zeros-zeros.ensures.ahead order bytes (omega arith)) in
    subst (HasLeadingZeros c.args.self.now.remaining) (sym c.from.ensures) stands
