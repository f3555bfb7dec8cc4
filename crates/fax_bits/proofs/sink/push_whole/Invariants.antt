use Rattle.std.proofs.Common.{◌≡◌, ◌+◌, ◌*◌, ◌^◌, ◌≤◌, ◌<◌, ◌++◌, vec_len, vec_capacity}
use Rattle.fax_bits.specs.declared.FillOrder.TheVariants.{MsbFirst}
use Rattle.fax_bits.specs.Bits.{bits, code_bits}
use Rattle.fax_bits.proofs.sink.push_whole.Given as goal

abbrev pub invariant-loop-remaining : goal.invariant-loop-remaining
invariant-loop-remaining l = record {
  few : l.remaining ≤ 64;
  fits : l.rest < 2 ^ l.remaining;
  len : 8 * vec_len l.bytes + l.remaining ≡ 8 * vec_len l.initial.bytes + l.count;
  room : vec_capacity l.bytes ≡ vec_capacity l.initial.bytes;
  put : bits MsbFirst l.bytes.items ++ code_bits l.remaining l.rest
      ≡ bits MsbFirst l.initial.bytes.items ++ code_bits l.count l.pending;
}

abbrev pub decreases-loop-remaining : goal.decreases-loop-remaining
decreases-loop-remaining l = l.remaining
