use Rattle.std.proofs.Common.{length, length-append, refl, ap, arith}
use Rattle.std.proofs.lemmas.Int.{ints}
use Rattle.fax_rows.proofs.RowStopLemmas.{row_stop}
use Rattle.fax_rows.proofs.GoesOnLemmas.{needed_leaves, goes_on_leaves, leaves_more}
use Rattle.fax_rows.proofs.ReadRowLemmas.{nothing_so_far, read_further, row_done}
use Rattle.fax_rows.proofs.two_dimensional.modes.read_by_look_ups.Goals as goal

pub loop-ahead-init : goal.loop-ahead-init
loop-ahead-init g c = rw c.fork-ahead.ensures (record {
  read = nothing_so_far c.args.source.now.remaining c.requires.room;
  same_end = refl;
})

pub loop-ahead-preserved : goal.loop-ahead-preserved
loop-ahead-preserved g c = record {
  read = read_further c.loop-ahead.invariant.read c.in-Ok.ensures.read;
  same_end = omega (arith, c.in-Ok.ensures.same_end, c.loop-ahead.invariant.same_end);
}

pub returns-clause-read : goal.returns-clause-read
returns-clause-read g c =
    let read = c.loop-ahead.invariant.read in
    let within = read.so_far.within in rw c.advance_to.ensures (row_done read (omega arith))

pub returns-in-Err-Stopped-clause-stop : goal.returns-in-Err-Stopped-clause-stop
returns-in-Err-Stopped-clause-stop g c =
    row_stop c.loop-ahead.invariant.read (omega arith) _
    (rw c.in-Err-Stopped.field-0-is at c.in-Err-Stopped.ensures.stop)

pub returns-in-Err-NeedsTable-clause-stop : goal.returns-in-Err-NeedsTable-clause-stop
returns-in-Err-NeedsTable-clause-stop g c =
    let needed = rw c.in-Err-NeedsTable.field-0-is at c.in-Err-NeedsTable.ensures.stop in
    let rest = c.next_steps.new.source.remaining in
    let remaining = leaves_more (goes_on_leaves c.loop-ahead.invariant.read.steps)
    (needed_leaves c.loop-ahead.at.position.colour c.loop-ahead.ahead.remaining c.in-Err-NeedsTable.needed rest
    needed.1.read) in
    rw needed.0 (record {
      at = c.loop-ahead.at;
      a0 = omega (arith, ints, c.number.ensures);
      end = refl;
      b1 = refl;
      middle = c.loop-ahead.ahead.remaining;
      read = c.loop-ahead.invariant.read;
      front = remaining.0;
      rest = rest;
      bits = remaining.1;
      place = omega (
        arith,
        c.place.ensures,
        c.in-Err-NeedsTable.ensures.same_end,
        c.loop-ahead.invariant.same_end,
        ap length remaining.1,
        length-append remaining.0 rest,
      );
      needed = needed.1;
    })
