use Rattle.std.proofs.Common.{◌≡◌, ◌++◌, take}
use Rattle.fax_files.specs.code.PageParts.{joined_strips}
use Rattle.fax_files.specs.views.Writing.{contents}
use Rattle.fax_files.proofs.written.put_strips.Given as goal

abbrev pub invariant-loop-strip : goal.invariant-loop-strip
invariant-loop-strip l = l.out.items ≡ l.initial.out.items ++ joined_strips (contents (take l.strip-index l.strips))
