use Rattle.fax_c.proofs.PlaceLemmas.{inside_told, inside_untold}
use Rattle.fax_c.proofs.places.tell_inside.Goals as goal

pub returns : goal.returns
returns c =
    inside_told c.args.walk.now c.in-Some.found c.in-Some-put.to c.args.place.now c.args.runs.now c.put.new.out
    (c.in-Some.ensures.place c.requires.some) c.put.ensures.few c.in-Some-put.ensures.put

pub returns-in_default-put : goal.returns-in_default-put
returns-in_default-put c =
    inside_untold c.args.walk.now c.in-Some.found c.args.place.now c.args.runs.now c.put.new.out
    (c.in-Some.ensures.place c.requires.some) c.in_default-put.ensures.put
