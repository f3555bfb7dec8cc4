use Rattle.std.proofs.Common.{rules}
use Prim.{search}
use Rattle.fax_rows.proofs.PlacedReadLemmas.{turned_on}
use Rattle.fax_rows.proofs.changes_of_row.push_change.Goals as goal

pub returns : goal.returns
returns c = record {
  ascending = search rules;
  last = search rules;
  toggled = turned_on c.args.changes.now c.args.end c.args.column c.requires.room;
  same_len = search rules;
}
