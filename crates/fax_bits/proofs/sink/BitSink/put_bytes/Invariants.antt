use Rattle.std.proofs.Common.{◌-◌, ◌≤◌, ◌++◌, length, take, drop}
use Rattle.fax_bits.specs.declared.FillOrder.TheVariants.{MsbFirst}
use Rattle.fax_bits.specs.Bits.{bits}
use Rattle.fax_bits.specs.views.Sink.{Appends}
use Rattle.fax_bits.proofs.sink.BitSink.put_bytes.Given as goal

abbrev pub invariant-loop-at : goal.invariant-loop-at
invariant-loop-at l = record {
  within : l.at ≤ length l.bytes;
  put : Appends l.fn.self (bits MsbFirst (take l.at l.bytes)) l.self;
}

abbrev pub decreases-loop-at : goal.decreases-loop-at
decreases-loop-at l = length l.bytes - l.at

abbrev pub invariant-loop-byte : goal.invariant-loop-byte
invariant-loop-byte l =
    Appends l.fn.self (bits MsbFirst (take l.at l.bytes ++ take l.byte-index (drop l.at l.bytes))) l.self
