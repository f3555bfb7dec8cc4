use Rattle.fax_rows.proofs.WrittenStepLemmas.{from_b2, b1_after_pass}
use Rattle.fax_rows.proofs.put_rows.CodingElements.after_pass.Goals as goal

pub returns-clause-changes : goal.returns-clause-changes
returns-clause-changes c = record {
  row = λ inside. from_b2 c.requires.changes c.requires.left_hand;
  reference = b1_after_pass c.requires.changes;
}
