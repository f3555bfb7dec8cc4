use Rattle.std.proofs.Common.{◌≡◌, ℕ, List, ◌++◌, length, drop}
use Rattle.fax_c.proofs.file_conversion.put_parts.Given as goal

-- the bytes that were returned are written, and nothing after them is changed
abbrev pub invariant-loop-part : goal.invariant-loop-part
invariant-loop-part l = record {
  done : List ℕ;
  all : l.fn.output ≡ done ++ l.remaining;
  place : l.at ≡ length done;
  written : l.out ≡ done ++ drop (length done) l.initial.out;
}

abbrev pub decreases-loop-part : goal.decreases-loop-part
decreases-loop-part l = length l.remaining
