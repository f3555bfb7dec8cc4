use Rattle.std.proofs.Common.{◌+◌, ◌-◌, ◌*◌}
use Rattle.fax_files.specs.Directory.{entries_at}
use Rattle.fax_files.specs.code.Fields.{AreFirst}
use Rattle.fax_files.proofs.directory.Directory.first_entries.Given as goal

-- the entries from the k-th on were seen
abbrev pub invariant-loop-k : goal.invariant-loop-k
invariant-loop-k l = AreFirst (entries_at l.self.endian l.self.file (l.self.offset + 2 + 12 * l.k) (l.count - l.k))
    l.first.entries
