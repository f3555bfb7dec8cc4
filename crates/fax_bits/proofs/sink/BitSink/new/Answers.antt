use Rattle.std.proofs.Common.{ap, ◌++◌}
use Rattle.fax_bits.specs.declared.FillOrder.TheVariants.{MsbFirst}
use Rattle.fax_bits.specs.Bits.{bits, code_bits}
use Rattle.fax_bits.proofs.sink.BitSink.new.Goals as goal

pub returns : goal.returns
unfolding bits code_bits
returns c = ap (λ items. record { order = c.args.order; bits = bits MsbFirst items ++ code_bits 0 0 })
    c.new.ensures.items
