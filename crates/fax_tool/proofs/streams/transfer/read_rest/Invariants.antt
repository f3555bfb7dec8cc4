use Rattle.std.proofs.Common.{◌≡◌, ℕ, List, ◌+◌, ◌-◌, ◌++◌, true, length}
use Rattle.std.specs.Prelude.{if◌then◌else◌}
use Rattle.std.specs.Io.KnownBytes.{Consumes, IsAtEnd}
use Rattle.fax_files.specs.Directory.{max_file}
use Rattle.fax_tool.specs.code.Transfers.{counted}
use Rattle.fax_tool.proofs.streams.transfer.read_rest.Given as goal

abbrev pub invariant-loop-file : goal.invariant-loop-file
invariant-loop-file g l = record {
  text : List ℕ;
  bytes_are : l.file.items ++ l.held.bytes ≡ l.fn.held.bytes ++ text;
  moved : Consumes (g.R.Source.remaining l.initial.input) (g.R.Source.remaining l.input) text;
  all : l.held.taken ≡ length l.file.items + length l.held.bytes;
  taken : g.R.Source.taken l.input ≡ l.held.taken;
  counts : g.R.Source.counts l.input ≡ counted l.interruptions;
  end : l.ended ≡ true → IsAtEnd (g.R.Source.remaining l.input);
}

abbrev pub decreases-loop-file : goal.decreases-loop-file
decreases-loop-file g l = (max_file - l.held.taken) + (if l.ended then 0 else 1)
