use Rattle.std.proofs.Common.{◌-◌}
use Rattle.fax_walk.specs.code.OnPaper.{IsPutting}
use Rattle.fax_walk.specs.code.SalvageItems.{upcoming_row}
use Rattle.fax_walk.proofs.salvaged_file.put_rows.Given as goal

abbrev pub invariant-loop-part : goal.invariant-loop-part
invariant-loop-part l = IsPutting l.fn.rows.rows l.fn.output l.rows.rows l.output l.lost

abbrev pub decreases-loop-part : goal.decreases-loop-part
decreases-loop-part l = l.rows.rows.form.rows - upcoming_row l.rows.rows
