use Rattle.std.proofs.Common.{◌≡◌, ◌-◌, ◌<◌, ◌⊎◌}
use Rattle.fax_walk.specs.code.Stages.{IsOpen, KeepsPlace, row_of}
use Rattle.fax_walk.proofs.open_page.OpenPage.read_upcoming.Given as goal

-- the same place, at this strip, or at a later one, whose rows are expected
abbrev pub invariant-strips : goal.invariant-strips
invariant-strips l = record {
  keeps : KeepsPlace l.initial.self l.self;
  is_open : IsOpen l.self;
  there : (l.self ≡ l.initial.self) ⊎ (row_of l.self < l.self.form.rows);
}

abbrev pub decreases-strips : goal.decreases-strips
decreases-strips l = l.self.form.strips - l.self.number
