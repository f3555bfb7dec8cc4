use Rattle.std.proofs.Common.{◌≡◌, ◌≤◌, drop}
use Rattle.fax_files.specs.code.Pbm.{capped_from, after_digits}
use Rattle.fax_files.proofs.pbm.number.Given as goal

abbrev pub invariant-loop-i : goal.invariant-loop-i
invariant-loop-i l = record {
  within : l.number ≤ 1000001;
  number : capped_from l.number (drop l.i l.bytes) ≡ capped_from 0 l.bytes;
  after : after_digits (drop l.i l.bytes) ≡ after_digits l.bytes;
}
