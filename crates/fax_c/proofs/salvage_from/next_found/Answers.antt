use Rattle.fax_c.proofs.SalvagedFromLemmas.{found_ahead, more_lost, none_ahead, none_lost}
use Rattle.fax_c.proofs.salvage_from.next_found.Goals as goal

pub loop-part-init : goal.loop-part-init
loop-part-init c = none_lost c.args.remaining.now c.args.page c.args.row c.requires.upcoming c.requires.within

pub returns-in-Found : goal.returns-in-Found
returns-in-Found c =
    found_ahead c.loop-part.invariant (rw c.in-Found.is at c.in-Some.ensures)

pub loop-part-preserved : goal.loop-part-preserved
loop-part-preserved c =
    let next = rw c.in-Lost.is at c.in-Some.ensures in
    rw c.longer.ensures (more_lost c.loop-part.invariant c.in-Lost.rows c.in-Lost.cause next)

pub returns : goal.returns
returns c = none_ahead c.loop-part.invariant c.in_default.ensures
