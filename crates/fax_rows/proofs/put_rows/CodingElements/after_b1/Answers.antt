use Rattle.fax_rows.proofs.WrittenStepLemmas.{from_a1, b1_after_b1}
use Rattle.fax_rows.proofs.put_rows.CodingElements.after_b1.Goals as goal

pub returns-clause-changes : goal.returns-clause-changes
returns-clause-changes c = record {
  row = from_a1 c.requires.changes;
  reference = b1_after_b1 c.requires.changes c.requires.same;
}
