use Rattle.std.proofs.Common.{◌≢◌, ◌-◌, ◌≤◌, get_or, arith}
use Rattle.std.specs.Prelude.{◌⊎◌}
use Rattle.fax_rows.proofs.PlacedReadLemmas.{below_last, below_width, ends_within, without_last, places_within}
use Rattle.fax_rows.proofs.changes_of_row.end_below.Goals as goal
use Rattle.fax_rows.proofs.changes_of_row.end_below.Goals.{Joined-else-end-gt1}
use Rattle.fax_rows.proofs.changes_of_row.end_below.Goals.{else-end-gt1-via-then-end-gt1+else-changes-end}
use Rattle.fax_rows.proofs.changes_of_row.end_below.Goals.{else-end-gt1-via-else-end-gt1}

pub returns-then-changes-end-clause-below : goal.returns-then-changes-end-clause-below
returns-then-changes-end-clause-below c = below_last c.args.changes.now c.args.end c.args.width c.requires.ascending
    c.requires.last

pub returns-then-changes-end-clause-within : goal.returns-then-changes-end-clause-within
returns-then-changes-end-clause-within c =
    omega (arith, places_within c.args.changes.now c.args.end c.args.width c.requires.ascending c.requires.last)

pub returns-then-changes-end-clause-pels : goal.returns-then-changes-end-clause-pels
returns-then-changes-end-clause-pels c =
    without_last c.args.width c.args.changes.now c.args.end c.requires.ascending.started c.requires.ascending.within
    (omega arith)

-- the last place, if any, is not the width
differs : (c : Joined-else-end-gt1) → (c.args.end ≤ 1) ⊎ (get_or c.args.changes.now (c.args.end - 1) 0 ≢ c.args.width)
differs c = grind arith

pub returns-else-end-gt1-clause-below : goal.returns-else-end-gt1-clause-below
returns-else-end-gt1-clause-below c =
    below_width c.args.changes.now c.args.end c.args.width c.requires.ascending c.requires.last (differs c)

pub returns-else-end-gt1-clause-within : goal.returns-else-end-gt1-clause-within
returns-else-end-gt1-clause-within c =
    ends_within c.args.changes.now c.args.end c.args.width c.requires.ascending
    (below_width c.args.changes.now c.args.end c.args.width c.requires.ascending c.requires.last (differs c))
