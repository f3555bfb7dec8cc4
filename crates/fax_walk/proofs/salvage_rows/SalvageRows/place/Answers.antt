use Rattle.std.proofs.Common.{refl}
use Rattle.fax_walk.proofs.SalvagePlaceLemmas.{upcoming_fits, place_here, place_next}
use Rattle.fax_walk.proofs.salvage_rows.SalvageRows.place.Goals as goal

pub returns-then-row-strip_form : goal.returns-then-row-strip_form
returns-then-row-strip_form c =
    let gone = rw (c.row.ensures, c.strip_form.ensures.exact) at c.if-row-strip_form.true in
    rw (← c.self.view_is) (place_next _ _ _ _ _ _ c.self.invariant gone)

pub overflow_sub-bits : goal.overflow_sub-bits
overflow_sub-bits c =
    let not_gone = rw (c.row.ensures, c.strip_form.ensures.exact) at c.if-row-strip_form.false in
    rw c.bits_remaining.ensures
    (upcoming_fits _ _ _ _ _ _ c.self.invariant _ _ not_gone c.bytes_left-whole.ensures.bytes
    c.bits_stand_by_index.ensures.count)

pub returns : goal.returns
returns c =
    let not_gone = rw (c.row.ensures, c.strip_form.ensures.exact) at c.if-row-strip_form.false in
    rw (← c.self.view_is, c.bits_remaining.ensures)
    (place_here _ _ _ _ _ _ c.self.invariant _ _ not_gone c.bytes_left-whole.ensures.bytes
    c.bits_stand_by_index.ensures.count
    (record { bits = _; reference = c.reference.result }) refl c.reference.ensures.pels
    c.reference.ensures.width)
