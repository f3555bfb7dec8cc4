use Rattle.std.proofs.Common.{◌≡◌, ◌-◌, List, length}
use Rattle.fax_walk.specs.laws.Tails.{BeginningsHaveOneTail}
use Rattle.fax_c.specs.declared.rows.FaxRow.{FaxRow}
use Rattle.fax_c.specs.Raster.{padded_row}
use Rattle.fax_c.proofs.RowsWrittenLemmas.{AreRowsWritten}
use Rattle.fax_c.proofs.page_raster.fill_raster.Given as goal

abbrev pub invariant-loop-count : goal.invariant-loop-count
invariant-loop-count l = record {
  law : BeginningsHaveOneTail;
  table : List FaxRow;
  lie : List FaxRow;
  asked : length table ≡ l.fn.asked;
  so_far : AreRowsWritten (padded_row l.fn.stride) l.initial.walk.file l.initial.walk.origin l.walk l.count l.used table
      lie l.initial.out l.out;
}

abbrev pub decreases-loop-count : goal.decreases-loop-count
decreases-loop-count l = l.fn.asked - l.count
