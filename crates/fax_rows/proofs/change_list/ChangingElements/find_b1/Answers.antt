use Rattle.std.proofs.Common.{arith}
use Rattle.fax_rows.proofs.PlacedRowLemmas.{end_within}
use Rattle.fax_rows.proofs.change_list.ChangingElements.find_b1.Goals as goal

pub bounds-self-b1 : goal.bounds-self-b1
bounds-self-b1 c =
    let row = c.args.self in
    omega (arith, row.elements.room, end_within row.elements)
