use Rattle.std.proofs.Common.{length, Some, subst}
use Rattle.fax_files.specs.declared.PageForm.{PageForm}
use Rattle.fax_c.specs.code.SalvagedFrom.{IsStopBefore}
use Rattle.fax_c.proofs.SalvagedFromLemmas.{all_from, no_memory_from, none_before, nowhere_from, place_is}
use Rattle.fax_c.proofs.salvage_from.salvage_page.Goals as goal

pub returns-in-Some : goal.returns-in-Some
returns-in-Some c =
    let some = rw c.form-form.ensures.form at c.form-form.ensures.limits.some_rows_per_strip in
    let why = subst
    (λ (f : PageForm). IsStopBefore f c.args.place.now c.args.stride (length c.args.out.now) (length c.args.lost.now)
    (Some c.in-Some.stop))
    c.form-form.ensures.form c.in-Some.ensures in
    none_before _ _ _ _ _ _ _ c.in-Some.stop some why (rw c.cursor-cursor.ensures at c.nothing.ensures)

pub returns-in-Ok : goal.returns-in-Ok
returns-in-Ok c =
    let some = rw c.form-form.ensures.form at c.form-form.ensures.limits.some_rows_per_strip in
    let upcoming = rw c.form-form.ensures.form at c.in_default.ensures in
    let origin = c.in-Ok.ensures.ok in
    let its = place_is _ _ c.args.stride _ _ c.args.out.now c.args.lost.now c.in-Some-row_before.ensures
    c.bits_before-bits.ensures.none c.bits_before-bits.ensures.some some upcoming.2 origin.there origin.inner in
    all_from _ _ _ _ _ _ _ origin.file_is origin.here_is c.fill_left_from-filled.ensures c.lemma_rows_left.ensures.1
    c.tell_left_after.ensures upcoming.0 its origin.rows_are

pub returns-in-Err-Outside : goal.returns-in-Err-Outside
returns-in-Err-Outside c =
    let upcoming = rw c.form-form.ensures.form at c.in_default.ensures in
    nowhere_from _ _ _ _ _ _ _ c.in-Some-row_before.ensures c.bits_before-bits.ensures.none
    c.bits_before-bits.ensures.some upcoming.0 upcoming.1
    (rw c.in-Err-Outside.field-0-is at c.in-Err-Outside.ensures.err)
    (rw c.cursor-cursor.ensures at c.nothing-in-Err-Outside.ensures)

pub returns-in-Err-Memory : goal.returns-in-Err-Memory
returns-in-Err-Memory c =
    let some = rw c.form-form.ensures.form at c.form-form.ensures.limits.some_rows_per_strip in
    let upcoming = rw c.form-form.ensures.form at c.in_default.ensures in
    no_memory_from _ _ _ _ _ _ _ c.in-Some-row_before.ensures c.bits_before-bits.ensures.none
    c.bits_before-bits.ensures.some some upcoming.0 upcoming.1 upcoming.2
    (rw c.in-Err-Memory.field-0-is at c.in-Err-Memory.ensures.err)
    (rw c.cursor-cursor.ensures at c.nothing-in-Err-Memory.ensures)
