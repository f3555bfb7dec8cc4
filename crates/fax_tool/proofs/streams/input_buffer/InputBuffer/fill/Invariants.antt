use Rattle.std.proofs.Common.{◌≡◌, ℕ, List, ◌+◌, ◌-◌, ◌<◌, ◌++◌, length, take}
use Rattle.std.specs.Io.KnownBytes.{Consumes}
use Rattle.fax_tool.specs.Run.{most_interrupted}
use Rattle.fax_tool.specs.code.InputBuffer.{IsHeld}
use Rattle.fax_tool.specs.code.Transfers.{counted}
use Rattle.fax_tool.proofs.streams.input_buffer.InputBuffer.fill.Given as goal

abbrev pub invariant-loop-self : goal.invariant-loop-self
invariant-loop-self g l = record {
  held : IsHeld l.self-inside.room.items l.self-inside.len l.self-inside.taken;
  origin : length l.fn.self.bytes < length l.self-inside.room.items;
  text : List ℕ;
  bytes_are : take l.self-inside.len l.self-inside.room.items ≡ l.fn.self.bytes ++ text;
  taken_is : l.self-inside.taken ≡ l.fn.self.taken + length text;
  moved : Consumes (g.R.Source.remaining l.initial.input) (g.R.Source.remaining l.input) text;
  taken : g.R.Source.taken l.input ≡ l.self-inside.taken;
  counts : g.R.Source.counts l.input ≡ counted l.interruptions;
}

abbrev pub decreases-loop-self : goal.decreases-loop-self
decreases-loop-self g l =
    (length l.self-inside.room.items - l.self-inside.len) + (most_interrupted - l.interruptions)
