use Rattle.std.proofs.Common.{arith, rules}
use Prim.{search}
use Rattle.fax_rows.proofs.PlacedReadLemmas.{turned_on, turned_back}
use Rattle.fax_rows.proofs.changes_of_row.toggle_change.Goals as goal

pub returns-then-changes-end : goal.returns-then-changes-end
returns-then-changes-end c = record {
  ascending = search rules;
  last = search rules;
  toggled = turned_back c.args.changes.now c.args.end c.args.column c.requires.ascending.started
      c.requires.ascending.within (omega arith);
  same_len = search rules;
}

pub returns : goal.returns
returns c = record {
  ascending = search rules;
  last = search rules;
  toggled = turned_on c.args.changes.now c.args.end c.args.column c.requires.room;
  same_len = search rules;
}
