use Rattle.std.proofs.Common.{◌++◌, length}
use Rattle.fax_bits.specs.views.Sink.{AppendsAllBut}
use Rattle.fax_rows.specs.Coded.{alternating_bits, one_dimensional_bits}
use Rattle.fax_rows.specs.Rows.{White}
use Rattle.fax_rows.proofs.put_rows.put_1d.Given as goal

abbrev pub invariant-loop-white : goal.invariant-loop-white
invariant-loop-white l = AppendsAllBut l.initial.sink (one_dimensional_bits l.row)
    (l.pending ++ alternating_bits White l.runs) l.sink

abbrev pub decreases-loop-white : goal.decreases-loop-white
decreases-loop-white l = length l.runs
