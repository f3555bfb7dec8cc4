use Rattle.std.proofs.Common.{◌≤◌, ◌+◌, ◌-◌}
use Rattle.fax_bits.specs.declared.Colour.{Colour}
use Rattle.fax_rows.specs.code.ChangingElements.{IsBeforeB1}
use Rattle.fax_rows.proofs.change_list.ChangingElements.find_b1.Given as goal

abbrev pub invariant-loop-b1 : goal.invariant-loop-b1
invariant-loop-b1 l = record {
  within : l.b1 ≤ l.self.end + 1;
  before : (colour : Colour) → IsBeforeB1 l.self l.column colour l.from → IsBeforeB1 l.self l.column colour l.b1;
}

abbrev pub decreases-loop-b1 : goal.decreases-loop-b1
decreases-loop-b1 l = l.self.end + 2 - l.b1
