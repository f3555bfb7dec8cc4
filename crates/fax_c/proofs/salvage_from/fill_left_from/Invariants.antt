use Rattle.std.proofs.Common.{◌-◌}
use Rattle.fax_c.proofs.SalvagedFromLemmas.{AreWrittenSoFar}
use Rattle.fax_c.proofs.salvage_from.fill_left_from.Given as goal

abbrev pub invariant-loop-remaining : goal.invariant-loop-remaining
invariant-loop-remaining l =
    AreWrittenSoFar l.fn.remaining l.fn.page l.fn.row l.fn.stride l.initial.out l.initial.lost l.remaining l.row l.count
    l.used
    l.stretches l.out l.lost

abbrev pub decreases-loop-remaining : goal.decreases-loop-remaining
decreases-loop-remaining l = l.fn.remaining.here.form.rows - l.row
