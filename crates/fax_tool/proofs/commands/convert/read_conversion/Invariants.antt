use Rattle.std.proofs.Common.{◌≡◌, ℕ, List, ◌+◌, ◌-◌, ◌++◌, true, length}
use Rattle.std.specs.Prelude.{if◌then◌else◌, codes}
use Rattle.std.specs.Io.KnownBytes.{Consumes, IsAtEnd}
use Rattle.fax_bits.specs.Bits.{StartsWith}
use Rattle.fax_files.specs.Directory.{max_file}
use Rattle.fax_walk.specs.views.Converting.{IsConverting}
use Rattle.fax_tool.specs.code.Transfers.{counted}
use Rattle.fax_tool.proofs.commands.convert.read_conversion.Given as goal

-- what was taken and is not held are images that were converted
abbrev pub invariant-loop-ended : goal.invariant-loop-ended
invariant-loop-ended g l = record {
  done : List ℕ;
  so_far : IsConverting done l.conversion.options l.conversion.images l.conversion.output;
  options : l.conversion.options ≡ l.fn.options;
  begins : StartsWith (done ++ l.held.bytes) (codes "P4");
  moved : Consumes (g.R.Source.remaining l.fn.input) (g.R.Source.remaining l.input) (done ++ l.held.bytes);
  all : l.held.taken ≡ length done + length l.held.bytes;
  taken : g.R.Source.taken l.input ≡ l.held.taken;
  counts : g.R.Source.counts l.input ≡ counted l.interruptions;
  end : l.ended ≡ true → IsAtEnd (g.R.Source.remaining l.input);
}

abbrev pub decreases-loop-ended : goal.decreases-loop-ended
decreases-loop-ended g l = (max_file - l.held.taken) + (if l.ended then 0 else 1)
