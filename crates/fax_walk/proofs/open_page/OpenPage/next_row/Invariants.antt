use Rattle.std.proofs.Common.{List, ◌≡◌, ◌<◌, ◌⊎◌}
use Rattle.fax_walk.specs.Items.{RowItem}
use Rattle.fax_walk.specs.code.Stages.{HasSkipped, IsOpen, row_of, skipped}
use Rattle.fax_walk.proofs.open_page.OpenPage.next_row.Given as goal

-- only rows that are not returned were read
abbrev pub invariant-rows : goal.invariant-rows
invariant-rows l = record {
  items : List RowItem;
  skips : HasSkipped l.initial.self l.self items;
  is_open : IsOpen l.self;
  upcoming : (l.self ≡ l.initial.self) ⊎ (row_of l.self < l.self.form.rows);
}

abbrev pub decreases-rows : goal.decreases-rows
decreases-rows l = skipped l.self
