use Rattle.fax_walk.proofs.WalkLemmas.{are_read, none_are_read}
use Rattle.fax_walk.proofs.walk.Walk.rows_read.Goals as goal

pub returns-in-Some : goal.returns-in-Some
returns-in-Some c =
    let w = c.self.inside in
    rw (← c.self.view_is, c.rows_read.ensures) (are_read _ w.cursor w.page c.in-Some.page c.in-Some.is c.self.invariant)

pub returns-in-None : goal.returns-in-None
returns-in-None c =
    let w = c.self.inside in
    rw (← c.self.view_is)
    (none_are_read _ w.cursor w.page c.beginnings_have_one_tail.ensures c.in-None.is c.self.invariant)
