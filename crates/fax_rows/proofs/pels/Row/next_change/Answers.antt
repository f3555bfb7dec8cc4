use Rattle.std.proofs.Common.{get_or, subst, arith}
use Rattle.fax_rows.proofs.PlacedRowLemmas.{IsNext, at_from, end_within, next_here}
use Rattle.fax_rows.proofs.pels.Row.next_change.Goals as goal

pub bounds-row-change_after : goal.bounds-row-change_after
bounds-row-change_after c =
    let row = c.elements-row.result in
    let at = at_from row.elements c.args.from c.change_after.result c.change_after.ensures in
    omega (arith, at.1, row.elements.room, end_within row.elements)

pub returns : goal.returns
returns c =
    let row = c.elements-row.result in
    let next = subst (λ pels. IsNext pels c.args.from (get_or row.changes.now c.change_after.result 0))
    c.elements-row.ensures
    (next_here row.elements c.args.from c.change_after.result c.change_after.ensures) in
    record { place = next.place; within = next.within; right = next.right }
