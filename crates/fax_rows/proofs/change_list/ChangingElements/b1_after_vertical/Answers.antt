use Rattle.std.proofs.Common.{arith}
use Rattle.fax_rows.specs.Rows.{other}
use Rattle.fax_rows.proofs.PlacedRowLemmas.{end_within}
use Rattle.fax_rows.proofs.PlacedB1Lemmas.{right_start, left_start}
use Rattle.fax_rows.proofs.change_list.ChangingElements.b1_after_vertical.Goals as goal

pub bounds-self-b1 : goal.bounds-self-b1
bounds-self-b1 c =
    let row = c.args.self in
    omega (arith, row.elements.room, end_within row.elements)

pub returns : goal.returns
returns c = λ inside a0 colour at right.
    c.b1_after.ensures inside (other colour)
    (right_start c.args.self a0 colour c.args.b1 c.args.column at (omega arith) inside)

pub returns-then-self-b1 : goal.returns-then-self-b1
returns-then-self-b1 c = λ inside a0 colour at right.
    c.b1_before.ensures (other colour) (left_start c.args.self a0 colour c.args.b1 c.args.column at right)
