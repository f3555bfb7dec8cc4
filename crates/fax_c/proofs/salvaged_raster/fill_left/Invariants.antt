use Rattle.std.proofs.Common.{◌-◌, List}
use Rattle.fax_walk.specs.Salvaged.{PageRow}
use Rattle.fax_c.proofs.SalvagedLemmas.{AreLeftSoFar}
use Rattle.fax_c.proofs.salvaged_raster.fill_left.Given as goal

abbrev pub invariant-loop-part : goal.invariant-loop-part
invariant-loop-part l = record {
  all : List PageRow;
  so_far : AreLeftSoFar l.fn.remaining all l.fn.page l.fn.stride l.initial.out l.initial.lost l.remaining l.row l.at
      l.count
      l.ended l.out l.lost;
}

abbrev pub decreases-loop-part : goal.decreases-loop-part
decreases-loop-part l = l.fn.remaining.rows - l.row
