use Rattle.fax_walk.specs.views.Walk.{place_inside}
use Rattle.fax_walk.proofs.WalkLemmas.{long_is}
use Rattle.fax_walk.proofs.walk.Walk.long_cursor_ref.Goals as goal

pub returns-in-Some-clause-place : goal.returns-in-Some-clause-place
returns-in-Some-clause-place c =
    let w = c.self.inside in
    rw (← c.self.view_is)
    (λ _. long_is _ w.cursor w.page c.self.invariant c.if-self-gt0.true c.in-Some.page c.in-Some.is
    (place_inside c.long_cursor_ref.result)
    c.long_cursor_ref.ensures)
