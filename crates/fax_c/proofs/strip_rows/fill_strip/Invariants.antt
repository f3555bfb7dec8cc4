use Rattle.std.proofs.Common.{◌-◌, length}
use Rattle.fax_c.specs.code.BareStrips.{upcoming_place}
use Rattle.fax_c.proofs.StripLemmas.{AreReadSoFar}
use Rattle.fax_c.proofs.strip_rows.fill_strip.Given as goal

abbrev pub invariant-loop-out : goal.invariant-loop-out
invariant-loop-out l =
    AreReadSoFar l.initial.reader.form l.initial.reader.bytes l.fn.stride (upcoming_place l.initial.reader)
    l.initial.out
    l.count l.used l.reader l.out

abbrev pub decreases-loop-out : goal.decreases-loop-out
decreases-loop-out l = length l.initial.out - l.used
