use Rattle.std.proofs.Common.{Option, Some, refl, sym, subst}
use Rattle.fax_walk.specs.declared.end.End.{End}
use Rattle.fax_walk.specs.views.Walk.{WalkView}
use Rattle.fax_walk.specs.code.Walk.{IsAdvance, answer_of}
use Rattle.fax_walk.proofs.WalkLemmas.{advance_ends, ends_again, ends_now}
use Rattle.fax_walk.proofs.walk.Walk.advance_row.Goals as goal

pub invariant_of-self : goal.invariant_of-self
invariant_of-self c =
    let w = c.self.inside in
    let sound = rw c.in_default.is at c.self.invariant in
    let next = (rw c.in-Some-page.is at c.in-Ok.ensures) w.yielded w.cursor sound.0 in
    rw (c.in_default.is, c.in-Some-page.is, c.cursor-self-inside.ensures) next

pub returns-in-Some-page : goal.returns-in-Some-page
returns-in-Some-page c =
    let w = c.self.inside in
    let sound = rw c.in_default.is at c.self.invariant in
    let next = (rw c.in-Some-page.is at c.in-Ok.ensures) w.yielded w.cursor sound.0 in
    rw (← c.self.view_is) (c.in_default.is, next.1.few, refl)

pub returns-in-Err-Memory : goal.returns-in-Err-Memory
returns-in-Err-Memory c =
    let w = c.self.inside in
    let sound = rw c.in_default.is at c.self.invariant in
    let refused = rw c.in-Err-Memory.field-0-is at c.in-Err-Memory.ensures in
    rw (← c.self.view_is) (refl, c.in_default.is, refused.1 w.yielded w.cursor sound.0)

pub returns-in-Some : goal.returns-in-Some
returns-in-Some c =
    let w = c.self.inside in
    let walk : WalkView = record { file = w.file.now; origin = w.origin; yielded = w.yielded; final_end = w.final_end }
    in
    let end = c.in-Some.end in
    rw (← c.self.view_is, c.answer.ensures)
    (subst (λ (t : Option End). IsAdvance walk (answer_of end) (record walk { final_end = t })) (sym c.in-Some.is)
    (advance_ends walk _ end (ends_again walk w.cursor w.page end c.in-Some.is c.self.invariant)))

pub returns-in-Err-Ended : goal.returns-in-Err-Ended
returns-in-Err-Ended c =
    let w = c.self.inside in
    let walk : WalkView = record { file = w.file.now; origin = w.origin; yielded = w.yielded; final_end = w.final_end }
    in
    let next = rw c.in-Err-Ended.field-0-is at c.in-Err-Ended.ensures in
    let end = c.in-Err-Ended.end in
    rw (← c.self.view_is, c.answer-in-Err-Ended.ensures)
    (advance_ends walk (record walk { final_end = Some end }) end
    (ends_now walk w.cursor w.page c.advance_page.new.page end c.in_default.is c.self.invariant next))
