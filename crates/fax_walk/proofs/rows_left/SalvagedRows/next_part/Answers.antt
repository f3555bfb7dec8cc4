use Rattle.fax_walk.specs.code.SalvagedRows.{its_of}
use Rattle.fax_walk.proofs.RowsLeftLemmas.{next_gone, next_seen}
use Rattle.fax_walk.proofs.rows_left.SalvagedRows.next_part.Goals as goal

pub invariant_of-self : goal.invariant_of-self
invariant_of-self c =
    next_gone c.self.inside.remaining c.next_of.new.remaining c.self.invariant c.next_of.result c.next_of.ensures

pub returns : goal.returns
returns c =
    rw (← c.self.view_is)
    (next_seen c.self.inside.remaining c.next_of.new.remaining c.self.invariant
    (c.rows_are_left_in_one_way.ensures.one (its_of c.self.inside.remaining)) c.next_of.result c.next_of.ensures)
