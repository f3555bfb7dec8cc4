use Rattle.std.proofs.Common.{◌≡◌, ◌+◌, ◌-◌, ◌*◌}
use Rattle.fax_files.specs.Directory.{entries_at, ascend}
use Rattle.fax_files.specs.views.Fields.{entries_of}
use Rattle.fax_files.proofs.directory.Directory.in_order.Given as goal

-- the entries ascend where those from the last one that was looked at on do
abbrev pub invariant-loop-k : goal.invariant-loop-k
invariant-loop-k l =
    ascend (entries_at l.self.endian l.self.file (l.self.offset + 2 + 12 * (l.k - 1)) (l.count - (l.k - 1)))
    ≡ ascend (entries_of l.self)
