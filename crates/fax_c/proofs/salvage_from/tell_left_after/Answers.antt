use Rattle.std.proofs.Common.{ap, refl}
use Rattle.fax_c.specs.views.Places.{cursor_of}
use Rattle.fax_c.proofs.SalvagedFromLemmas.{told_at, told_inside}
use Rattle.fax_c.proofs.salvage_from.tell_left_after.Goals as goal

pub returns-in_default : goal.returns-in_default
returns-in_default c =
    let more = rw c.requires.rows at c.if-cursor-rows.false in
    told_at c.args.remaining.now c.at.result c.args.cursor c.args.runs.now c.requires.cursor more c.requires.ends
    c.at.ensures c.in_default.ensures

pub returns : goal.returns
returns c =
    let more = rw c.requires.rows at c.if-cursor-rows.false in
    told_inside c.args.remaining.now _ c.args.cursor c.put_all_runs-place.new.out c.requires.cursor more c.requires.ends
    c.args.runs.now c.in-Some.lent (ap cursor_of c.at.ensures) refl c.in-Some.ensures c.put_all_runs-place.ensures
