use Rattle.std.proofs.Common.{◌^◌, ◌<◌, ◌++◌, arith, ap, ◌∙◌}
use Rattle.fax_bits.specs.Bits.{code_bits}
use Rattle.fax_bits.proofs.SinkLemmas.{joined-lt, put_after}
use Rattle.fax_bits.proofs.sink.BitSink.put.Goals as goal

pub invariant_of-self : goal.invariant_of-self
invariant_of-self c = grind (arith, joined-lt)

pub returns-clause-ok : goal.returns-clause-ok
returns-clause-ok c =
    let inside = c.self.inside in
    let fits : c.from.result < 2 ^ c.args.len = omega (arith, c.from.ensures, c.requires.fits) in
    put_after inside.order inside.bytes.items inside.count inside.pending c.args.len c.from.result c.args.self.now
    c.self.invariant.fits
    fits (omega (arith, c.self.invariant.few)) c.self.view_is
    ∙ ap (λ n. record { order = c.args.self.now.order; bits = c.args.self.now.bits ++ code_bits c.args.len n })
    c.from.ensures
