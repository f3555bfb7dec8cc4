use Rattle.std.proofs.Common.{arith}
use Rattle.fax_rows.proofs.WrittenStepLemmas.{from_a1, b1_after_a1}
use Rattle.fax_rows.proofs.put_rows.CodingElements.after_a1.Goals as goal

pub returns-clause-changes : goal.returns-clause-changes
returns-clause-changes c = record {
  row = from_a1 c.requires.changes;
  reference = λ inside.
      b1_after_a1 c.requires.changes _ (c.b1_after_vertical.ensures (omega arith));
}
