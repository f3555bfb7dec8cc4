use Rattle.std.proofs.Common.{◌-◌}
use Rattle.fax_c.proofs.SalvagedFromLemmas.{AreLostSoFar}
use Rattle.fax_c.proofs.salvage_from.next_found.Given as goal

abbrev pub invariant-loop-part : goal.invariant-loop-part
invariant-loop-part l = AreLostSoFar l.fn.remaining l.fn.page l.fn.row l.remaining l.upcoming l.lost

abbrev pub decreases-loop-part : goal.decreases-loop-part
decreases-loop-part l = l.fn.remaining.here.form.rows - l.upcoming
