use Rattle.std.proofs.Common.{◌≡◌, ◌+◌, ◌*◌, ◌≤◌, ◌++◌, take}
use Rattle.fax_rows.specs.code.Ones.{ones_among}
use Rattle.fax_rows.proofs.ones.put_ones_by_bytes.Given as goal

-- the ones of the bytes before k are put
abbrev pub invariant-loop-k : goal.invariant-loop-k
invariant-loop-k l = record {
  put : take l.end l.changes ≡ take l.initial.end l.initial.changes ++ ones_among l.from 63 l.word (8 * l.k);
  within : l.end ≤ l.initial.end + 8 * l.k;
}
