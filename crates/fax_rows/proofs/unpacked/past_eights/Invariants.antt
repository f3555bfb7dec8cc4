use Rattle.std.proofs.Common.{◌*◌, ◌-◌, ◌≤◌}
use Rattle.fax_bits.specs.declared.FillOrder.TheVariants.{MsbFirst}
use Rattle.fax_bits.specs.Bits.{bits}
use Rattle.fax_rows.specs.code.Unpacked.{AreWhite}
use Rattle.fax_rows.proofs.unpacked.past_eights.Given as goal

abbrev pub invariant-loop-k : goal.invariant-loop-k
invariant-loop-k l = record {
  from : l.from ≤ l.k;
  within : l.k ≤ l.words;
  white : AreWhite (bits MsbFirst l.bytes) (64 * l.from) (64 * l.k);
}

abbrev pub decreases-loop-k : goal.decreases-loop-k
decreases-loop-k l = l.words - l.k
