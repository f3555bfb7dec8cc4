use Rattle.fax_walk.specs.views.Walk.{WalkView}
use Rattle.fax_walk.proofs.WalkLemmas.{is_left}
use Rattle.fax_walk.proofs.walk.Walk.lemma_items_left.Goals as goal

pub returns : goal.returns
returns c =
    let w = c.self.inside in
    let walk : WalkView = record { file = w.file.now; origin = w.origin; yielded = w.yielded; final_end = w.final_end }
    in
    rw (← c.self.view_is)
    (is_left walk w.cursor w.page c.beginnings_have_one_tail.ensures c.self.invariant)
