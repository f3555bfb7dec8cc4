use Rattle.std.proofs.Common.{◌-◌}
use Rattle.fax_walk.specs.code.SalvagePage.{HasPassedLost, row_after}
use Rattle.fax_walk.proofs.salvage_page.SalvagePage.next_item.Given as goal

abbrev pub invariant-loop-part : goal.invariant-loop-part
invariant-loop-part l = HasPassedLost l.fn.self l.self

abbrev pub decreases-loop-part : goal.decreases-loop-part
decreases-loop-part l = l.self.rows.form.rows - row_after l.self
