use Rattle.std.proofs.Common.{None, true, sym, ap, subst, ◌∙◌}
use Rattle.fax_walk.specs.declared.salvage.SalvageItem.TheVariants.{Lost}
use Rattle.fax_walk.specs.code.SalvagePage.{SalvagePageState, GivesOfPage}
use Rattle.fax_walk.proofs.SalvagePageLemmas.{lost_passed, found_alone, found_after, ended_alone, ended_after}
use Rattle.fax_walk.proofs.salvage_page.SalvagePage.next_item.Goals as goal

pub returns-in_default-lost : goal.returns-in_default-lost
returns-in_default-lost c =
    let passed = rw (← c.self-in-loop-part.view_is) at c.loop-part.invariant in
    let part = rw c.in-Found.is at c.in-Some.ensures in
    let same = ap (λ (s : SalvagePageState). s.lost) (sym c.show.ensures ∙ sym c.self-in-Found.view_is) in
    rw (c.item-in_default-lost.ensures, c.show.ensures)
    (found_alone passed c.self-in-loop-part.invariant _ part (same ∙ c.in_default-lost.is))

pub returns-in-Found : goal.returns-in-Found
returns-in-Found c =
    let passed = rw (← c.self-in-loop-part.view_is) at c.loop-part.invariant in
    let part = rw c.in-Found.is at c.in-Some.ensures in
    let same = ap (λ (s : SalvagePageState). s.lost) (sym c.show.ensures ∙ sym c.self-in-Found.view_is) in
    subst (λ (s : SalvagePageState). GivesOfPage c.args.self.now (Lost c.in-Some-lost.stretch)
    (record s { lost = None; waits = true })) (sym (c.self-in-Found.view_is ∙ c.show.ensures))
    (found_after passed c.self-in-loop-part.invariant _ part _ (same ∙ c.in-Some-lost.is))

pub loop-part-preserved : goal.loop-part-preserved
loop-part-preserved c =
    let passed = rw (← c.self-in-loop-part.view_is) at c.loop-part.invariant in
    let part = rw c.in-Lost.is at c.in-Some.ensures in
    rw (c.longer.ensures, c.self-in-loop-part.invariant.row_is)
    (lost_passed passed c.self-in-loop-part.invariant _ _ _ _ part)

pub returns-in_default-lost-2 : goal.returns-in_default-lost-2
returns-in_default-lost-2 c =
    let passed = rw (← c.self-in-loop-part.view_is) at c.loop-part.invariant in
    let same = ap (λ (s : SalvagePageState). s.lost) (sym c.self-2.view_is) in
    ended_alone passed c.self-in-loop-part.invariant _ c.in_default.ensures _ (same ∙ c.in_default-lost-2.is)

pub returns : goal.returns
returns c =
    let passed = rw (← c.self-in-loop-part.view_is) at c.loop-part.invariant in
    let same = ap (λ (s : SalvagePageState). s.lost) (sym c.self-2.view_is) in
    subst (λ (s : SalvagePageState). GivesOfPage c.args.self.now (Lost c.in-Some-lost-2.stretch)
    (record s { lost = None })) (sym c.self-2.view_is)
    (ended_after passed c.self-in-loop-part.invariant _ c.in_default.ensures _ _ (same ∙ c.in-Some-lost-2.is))
