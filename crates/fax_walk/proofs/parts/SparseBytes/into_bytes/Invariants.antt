use Rattle.std.proofs.Common.{◌≡◌, ◌++◌, length}
use Rattle.fax_walk.proofs.parts.SparseBytes.into_bytes.Given as goal

-- what was copied, and what is left, are all bytes
abbrev pub invariant-loop-part : goal.invariant-loop-part
invariant-loop-part l = l.bytes.items ++ l.remaining ≡ l.fn.self

abbrev pub decreases-loop-part : goal.decreases-loop-part
decreases-loop-part l = length l.remaining
