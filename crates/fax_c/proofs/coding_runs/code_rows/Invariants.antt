use Rattle.std.proofs.Common.{◌≡◌, List, length}
use Rattle.fax_rows.specs.Rows.{Colour}
use Rattle.fax_page.specs.laws.Writer.{HasPut}
use Rattle.fax_c.specs.views.StripRuns.{AreRowsAt}
use Rattle.fax_c.proofs.coding_runs.code_rows.Given as goal

-- the rows so far lie in the table, and were put
abbrev pub invariant-loop-i : goal.invariant-loop-i
invariant-loop-i l = record {
  width : length l.row ≡ l.fn.form.width;
  rows : List (List Colour);
  count : length rows ≡ l.i;
  lie : AreRowsAt l.fn.form.width l.fn.rows l.fn.runs 0 rows;
  put : HasPut l.fn.form l.fn.k rows l.writer;
}
