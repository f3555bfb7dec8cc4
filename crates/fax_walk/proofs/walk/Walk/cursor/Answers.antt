use Rattle.fax_walk.specs.views.Walk.{WalkView}
use Rattle.fax_walk.proofs.WalkLemmas.{cursor_is}
use Rattle.fax_walk.proofs.walk.Walk.cursor.Goals as goal

pub returns : goal.returns
returns c =
    let w = c.self.inside in
    let walk : WalkView = record { file = w.file.now; origin = w.origin; yielded = w.yielded; final_end = w.final_end }
    in
    rw (← c.self.view_is) (cursor_is walk w.cursor w.page c.self.invariant)
