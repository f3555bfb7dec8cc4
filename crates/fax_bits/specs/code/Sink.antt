-- Bits that are appended one after another.
use Rattle.std.specs.Prelude.{◌≡◌, ℕ, ◌+◌, ◌<◌, ◌≤◌, ◌^◌, List, ◌++◌}
use Rattle.fax_bits.specs.declared.FillOrder.{FillOrder}
use Rattle.fax_bits.specs.declared.FillOrder.TheVariants.{MsbFirst}
use Rattle.fax_bits.specs.Bits.{bits, code_bits}
use Rattle.fax_bits.specs.views.Sink.{Sink}

-- the bits of whole bytes, the highest of each first, and after them `count` pending bits, which
-- spell a number
abbrev pub sink_of : FillOrder → List ℕ → ℕ → ℕ → Sink
sink_of order bytes count pending =
    record { order = order; bits = bits MsbFirst bytes ++ code_bits count pending }

-- no more bits are pending than may be, which are none, or thirty-two where there is room for five
-- bytes more
pub record IsPending (count pending most bytes capacity : ℕ) : Type 0 where
  pub within : count ≤ most
  pub few : most ≤ 32
  pub fits : pending < 2 ^ count
  pub word : 0 < most → most ≡ 32
  pub room : 0 < most → bytes + 5 ≤ capacity

-- so many bits, which spell a number, wait for a sink
pub record AreWaiting (count number : ℕ) : Type 0 where
  pub few : count ≤ 32
  pub fits : number < 2 ^ count
