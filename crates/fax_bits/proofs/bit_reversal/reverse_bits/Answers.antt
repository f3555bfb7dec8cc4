use Rattle.std.proofs.Common.{◌∙◌, ap, arith}
use Rattle.std.specs.Int.{reverse_bits, w8}
use Rattle.fax_bits.proofs.LaneLemmas.{turned_group, turned_all}
use Rattle.fax_bits.proofs.WordLemmas.{bits-reversed}
use Rattle.fax_bits.specs.Bits.{bits}
use Rattle.fax_bits.proofs.bit_reversal.reverse_bits.Goals as goal

pub loop-at-preserved : goal.loop-at-preserved
loop-at-preserved c = record {
  within = omega arith;
  turned = turned_group (reverse_bits w8) c.args.bytes.now c.loop-at.bytes c.turned-lanes.result c.loop-at.at
      c.loop-at.invariant.turned
      c.turned-lanes.ensures (omega arith);
}

pub returns-clause-turned : goal.returns-clause-turned
returns-clause-turned c = turned_all (reverse_bits w8) c.args.bytes.now c.loop-i.bytes c.loop-i.i c.loop-i.invariant
    (omega arith)

pub returns-clause-order : goal.returns-clause-order
returns-clause-order c = λ order.
    ap (bits order) (turned_all (reverse_bits w8) c.args.bytes.now c.loop-i.bytes c.loop-i.i c.loop-i.invariant
    (omega arith))
    ∙ bits-reversed order c.args.bytes.now
