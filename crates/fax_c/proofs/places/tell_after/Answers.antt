use Rattle.fax_c.proofs.PlaceLemmas.{after_told}
use Rattle.fax_c.proofs.places.tell_after.Goals as goal

pub returns-then-count-gt0-clause-place : goal.returns-then-count-gt0-clause-place
returns-then-count-gt0-clause-place c =
    after_told c.args.walk.now c.args.cursor c.args.count c.at.result c.tell_inside.new.place c.args.runs.now
    c.tell_inside.new.runs
    (c.requires.given c.if-count-gt0.true) c.at.ensures c.tell_inside.ensures
