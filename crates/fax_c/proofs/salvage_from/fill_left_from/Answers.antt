use Rattle.std.proofs.Common.{arith, refl}
use Rattle.fax_c.proofs.SalvagedFromLemmas.{ended, found_few, is_done}
use Rattle.std.proofs.lemmas.Bool.{not-false, not-true}
use Rattle.fax_c.proofs.SalvagedFromLemmas.{nothing_written, one_more}
use Rattle.fax_c.proofs.salvage_from.fill_left_from.Goals as goal

pub loop-remaining-init : goal.loop-remaining-init
loop-remaining-init c =
    nothing_written c.args.remaining.now c.args.page c.args.row c.args.stride c.args.out.now c.args.lost.now
    c.requires.upcoming
    c.requires.within

pub returns-then-not-ahead : goal.returns-then-not-ahead
returns-then-not-ahead c =
    let room = c.loop-remaining-test.ensures.room refl in
    ended c.loop-remaining.invariant c.next_found-ahead.ensures c.loop-remaining.auto.lost
    (omega (arith, room.1, c.loop-remaining.auto.lost)) c.put_stretch-stretches.result c.put_stretch-stretches.new.lost
    c.put_stretch-stretches.ensures (not-true _ c.if-not-ahead.true)
    (rw (c.loop-remaining.auto.out, c.loop-remaining.auto.lost) at room)

pub overflow_add-count : goal.overflow_add-count
overflow_add-count c =
    let so_far = c.loop-remaining.invariant in
    omega (arith, so_far.count_is, found_few so_far.passed, so_far.passes.next, so_far.passes.within, c.requires.few)

pub loop-remaining-preserved : goal.loop-remaining-preserved
loop-remaining-preserved c =
    let room = c.loop-remaining-test.ensures.room refl in
    let width = rw c.row.ensures.pels at c.row.ensures.width in
    one_more c.loop-remaining.invariant c.next_found-ahead.ensures c.loop-remaining.auto.lost
    (omega (arith, room.1, c.loop-remaining.auto.lost)) c.put_stretch-stretches.result c.put_stretch-stretches.new.lost
    c.put_stretch-stretches.ensures (not-false _ c.if-not-ahead.false)
    (rw (c.loop-remaining.auto.out, c.loop-remaining.auto.lost) at room) width
    c.requires.short c.loop-remaining.auto.out c.put_in_stride-used.result c.put_in_stride-used.new.out
    (rw c.row.ensures.pels at c.put_in_stride-used.ensures)

pub returns : goal.returns
returns c =
    is_done c.loop-remaining.invariant c.requires.room
    (rw (c.loop-remaining.auto.out, c.loop-remaining.auto.lost) at c.loop-remaining-test.ensures.full refl)
