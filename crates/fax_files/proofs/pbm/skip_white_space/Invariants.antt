use Rattle.std.proofs.Common.{◌≡◌, drop, false}
use Rattle.fax_files.specs.code.Pbm.{skip_white_space}
use Rattle.fax_files.proofs.pbm.skip_white_space.Given as goal

abbrev pub invariant-loop-i : goal.invariant-loop-i
invariant-loop-i l = skip_white_space l.in_comment (drop l.i l.bytes) ≡ skip_white_space false l.bytes
