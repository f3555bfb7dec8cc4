use Rattle.std.proofs.Common.{refl, ◌<◌, ◌≤◌, length, arith}
use Rattle.std.proofs.lemmas.Result.{on_ok_weaker}
use Rattle.fax_rows.specs.code.ChangingElements.{element_pels}
use Rattle.fax_rows.proofs.ChangeLemmas.{first_of}
use Rattle.fax_rows.proofs.WrittenPlaceLemmas.{same_widths, written_width}
use Rattle.fax_rows.proofs.PlacedLemmas.{place_begins, place_goes_on, place_stops, place_ends, step_smaller}
use Rattle.fax_rows.proofs.PutBitsLemmas.{on_err}
use Rattle.fax_rows.proofs.put_rows.put_steps.Goals as goal

pub loop-at-init : goal.loop-at-init
loop-at-init c = grind (arith, place_begins)

pub returns-in_err-at-clause-err : goal.returns-in_err-at-clause-err
returns-in_err-at-clause-err c =
    let inside : first_of c.loop-at.at.a0 < length (element_pels c.args.rows.row) =
    omega (arith, written_width c.args.rows) in
    on_err c.from_residual.result
    (place_stops (element_pels c.args.rows.reference) (element_pels c.args.rows.row) (same_widths c.args.rows)
    c.args.sink.now c.loop-at.sink
    c.put_step.new.sink
    c.loop-at.at.a0 c.loop-at.pending c.loop-at.invariant.elements inside c.in_err-at.ensures.err)

pub loop-at-smaller : goal.loop-at-smaller
loop-at-smaller c =
    let inside : first_of c.loop-at.at.a0 < length (element_pels c.args.rows.row) =
    omega (arith, written_width c.args.rows) in
    let smaller =
    step_smaller (element_pels c.args.rows.reference) (element_pels c.args.rows.row) (same_widths c.args.rows)
    c.loop-at.at.a0 inside _ refl
    c.in_ok-at.field-0-0.a0
    c.in_ok-at.ensures.next in
    omega (arith, written_width c.args.rows, smaller)

pub loop-at-preserved : goal.loop-at-preserved
loop-at-preserved c = grind (arith, written_width, place_goes_on, same_widths)

pub returns-clause-ok : goal.returns-clause-ok
returns-clause-ok c =
    let over : length (element_pels c.args.rows.row) ≤ first_of c.loop-at.at.a0 =
    omega (arith, written_width c.args.rows) in
    on_ok_weaker c.put_all.result
    (place_ends (element_pels c.args.rows.reference) (element_pels c.args.rows.row) c.args.sink.now c.loop-at.sink
    c.put_all.new.sink
    c.loop-at.at.a0 c.loop-at.pending c.loop-at.invariant.elements over)
    c.put_all.ensures.ok
