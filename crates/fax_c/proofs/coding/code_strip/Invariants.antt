use Rattle.std.proofs.Common.{◌≡◌, length}
use Rattle.fax_page.specs.laws.Writer.{HasPut}
use Rattle.fax_c.specs.Raster.{rows_of_raster}
use Rattle.fax_c.proofs.coding.code_strip.Given as goal

-- the rows so far were put
abbrev pub invariant-loop-i : goal.invariant-loop-i
invariant-loop-i l = record {
  width : length l.row ≡ l.fn.form.width;
  put : HasPut l.fn.form l.fn.k (rows_of_raster l.fn.form.width l.fn.stride l.fn.raster l.fn.first l.i) l.writer;
}
