use Rattle.std.proofs.Common.{◌≡◌, ℕ, ◌+◌, ◌≤◌, ◌++◌, take}
use Rattle.fax_rows.specs.code.Ones.{ones_among}
use Rattle.fax_rows.proofs.OnesLemmas.{AreLeft}
use Rattle.fax_rows.proofs.ones.put_ones_one_by_one.Given as goal

-- the ones before bit r are put
abbrev pub invariant-loop-remaining : goal.invariant-loop-remaining
invariant-loop-remaining l =
    (r : ℕ) × record {
      rest : AreLeft l.word l.remaining r;
      put : take l.end l.changes ≡ take l.initial.end l.initial.changes ++ ones_among l.from 63 l.word r;
      within : l.end ≤ l.initial.end + r;
    }

abbrev pub decreases-loop-remaining : goal.decreases-loop-remaining
decreases-loop-remaining l = l.remaining
