use Rattle.std.proofs.Common.{◌-◌}
use Rattle.fax_page.specs.code.LeftUncounted.{HasPassed}
use Rattle.fax_page.proofs.uncounted_salvage.UncountedSalvage.pass_all.Given as goal

abbrev pub invariant-rows : goal.invariant-rows
invariant-rows l = HasPassed l.initial.self l.self

abbrev pub decreases-rows : goal.decreases-rows
decreases-rows l = l.self.strip.form.rows - l.self.row
