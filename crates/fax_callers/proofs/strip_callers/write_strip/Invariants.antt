use Rattle.std.proofs.Common.{take}
use Rattle.fax_page.specs.laws.Writer.{HasPut}
use Rattle.fax_callers.proofs.strip_callers.write_strip.Given as goal

-- the rows so far were put
abbrev pub invariant-loop-row : goal.invariant-loop-row
invariant-loop-row l = HasPut l.fn.form l.k (take l.row-index l.rows) l.writer
