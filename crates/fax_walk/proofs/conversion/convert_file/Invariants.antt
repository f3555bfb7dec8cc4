use Rattle.std.proofs.Common.{◌^◌, ◌-◌}
use Rattle.fax_walk.specs.code.Sources.{AreRowsPut, IsFile}
use Rattle.fax_walk.proofs.conversion.convert_file.Given as goal

abbrev pub invariant-loop-walk : goal.invariant-loop-walk
invariant-loop-walk l = record {
  its : IsFile l.file;
  so_far : AreRowsPut l.file its l.options l.walk l.output;
}

abbrev pub decreases-loop-walk : goal.decreases-loop-walk
decreases-loop-walk l = 2 ^ 53 - l.walk.yielded
