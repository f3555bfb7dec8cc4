use Rattle.std.proofs.Common.{◌≡◌, ◌+◌, ◌++◌, length, take}
use Rattle.fax_files.specs.Layout.{offsets_from}
use Rattle.fax_files.specs.code.PageParts.{longs, joined_strips}
use Rattle.fax_files.specs.views.Writing.{contents}
use Rattle.fax_files.proofs.written.put_offsets.Given as goal

abbrev pub invariant-loop-strip : goal.invariant-loop-strip
invariant-loop-strip l = record {
  offset : l.offset ≡ l.start + length (joined_strips (contents (take l.strip-index l.strips)));
  put : l.out.items ≡ l.initial.out.items ++ longs (offsets_from l.start (contents (take l.strip-index l.strips)));
}
