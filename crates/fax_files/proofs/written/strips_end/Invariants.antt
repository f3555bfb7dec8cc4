use Rattle.std.proofs.Common.{◌≡◌, ◌+◌, ◌≤◌, length, take}
use Rattle.fax_files.specs.Directory.{max_file}
use Rattle.fax_files.specs.code.PageParts.{joined_strips}
use Rattle.fax_files.specs.views.Writing.{contents}
use Rattle.fax_files.proofs.written.strips_end.Given as goal

abbrev pub invariant-loop-strip : goal.invariant-loop-strip
invariant-loop-strip l = record {
  end : l.end ≡ l.start + length (joined_strips (contents (take l.strip-index l.strips)));
  limit : l.end ≤ max_file;
}
