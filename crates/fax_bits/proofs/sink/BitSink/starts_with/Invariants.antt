use Rattle.std.proofs.Common.{◌≡◌, ◌++◌, take}
use Rattle.fax_bits.specs.declared.FillOrder.TheVariants.{MsbFirst}
use Rattle.fax_bits.specs.Bits.{bits}
use Rattle.fax_bits.proofs.sink.BitSink.starts_with.Given as goal

abbrev pub invariant-loop-byte : goal.invariant-loop-byte
invariant-loop-byte l = l.source.remaining ≡ bits MsbFirst (take l.byte-index l.self-inside.bytes.items)
    ++ l.ahead.remaining
