use Rattle.std.proofs.Common.{◌≡◌, ◌+◌, ◌-◌, ◌*◌}
use Rattle.fax_files.specs.Directory.{entries_at, field}
use Rattle.fax_files.specs.views.Fields.{entries_of}
use Rattle.fax_files.proofs.directory.Directory.first_of.Given as goal

-- no entry before the k-th has the tag
abbrev pub invariant-loop-k : goal.invariant-loop-k
invariant-loop-k l =
    field (entries_at l.self.endian l.self.file (l.self.offset + 2 + 12 * l.k) (l.count - l.k)) l.tag
    ≡ field (entries_of l.self) l.tag
