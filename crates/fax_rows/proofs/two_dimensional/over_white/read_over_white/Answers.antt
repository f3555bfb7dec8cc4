use Rattle.std.proofs.Common.{length, length-append, refl, ap, arith}
use Rattle.fax_bits.specs.views.Source.{Source}
use Rattle.fax_rows.specs.code.OverWhite.{placed_over_white}
use Rattle.fax_rows.proofs.GoesOnLemmas.{goes_on_leaves}
use Rattle.fax_rows.proofs.OverWhiteLemmas.{reached_over_white, inside_over_white, end_reached}
use Rattle.fax_rows.proofs.ReadOnLemmas.{asked_or_not, pair_read}
use Rattle.fax_rows.proofs.ReadRowLemmas.{nothing_so_far, read_further, row_done}
use Rattle.fax_rows.proofs.UnderLemmas.{one_read}
use Rattle.fax_rows.proofs.two_dimensional.over_white.read_over_white.Goals as goal

pub loop-at-init : goal.loop-at-init
loop-at-init g c = rw c.fork-ahead.ensures (record {
  read = nothing_so_far c.args.source.now.remaining c.requires.room;
  unchanged = refl;
  same_end = refl;
})

pub vertical_0-requires : goal.vertical_0-requires
vertical_0-requires g c =
    record { inside = rw c.elements.ensures (inside_over_white c.loop-at.invariant.read.so_far c.loop-at-test.true) }

pub loop-at-preserved : goal.loop-at-preserved
loop-at-preserved g c =
    let inside = inside_over_white c.loop-at.invariant.read.so_far c.loop-at-test.true in
    let step = rw c.in-Some-Runs.field-0-is at c.in-Some-Runs.ensures.step in
    let read = pair_read inside step.1 (c.in-Some.ensures.read step.0 c.next_step.new.source.remaining step.2) in
    record {
      read = read_further c.loop-at.invariant.read read;
      unchanged = c.loop-at.invariant.unchanged;
      same_end = omega (arith, c.next_step.ensures.same_end, c.loop-at.invariant.same_end);
    }

pub returns-in-Some-End-clause-read : goal.returns-in-Some-End-clause-read
returns-in-Some-End-clause-read g c =
    let inside = inside_over_white c.loop-at.invariant.read.so_far c.loop-at-test.true in
    let taken = rw c.in-Some-End.field-0-is at c.in-Some-End.ensures.step in
    let under = rw c.elements.ensures at c.vertical_0.ensures in
    let read =
    one_read c.args.reference c.loop-at.changes c.vertical_0.new.changes (placed_over_white c.loop-at.at)
    c.vertical_0.result
    c.loop-at.ahead.remaining
    c.next_step.new.source.remaining taken inside under.step under.so_far in
    rw c.advance_to.ensures (row_done (read_further c.loop-at.invariant.read (asked_or_not read))
    (end_reached c.args.reference c.loop-at.changes _ c.loop-at.at c.vertical_0.result c.requires.white under.step))

pub returns-in-None-clause-stop : goal.returns-in-None-clause-stop
returns-in-None-clause-stop g c =
    let none = c.in-None.ensures.unchanged refl in
    let remaining = goes_on_leaves c.loop-at.invariant.read.steps in
    record {
      at = placed_over_white c.loop-at.at;
      a0 = c.slow_path_at.ensures.a0;
      end = c.slow_path_at.ensures.end;
      b1 = c.slow_path_at.ensures.b1;
      middle = c.loop-at.ahead.remaining;
      read = c.loop-at.invariant.read;
      front = remaining.0;
      rest = c.loop-at.ahead.remaining;
      bits = remaining.1;
      place = omega (
        arith,
        c.slow_path_at.ensures.place,
        c.place.ensures,
        ap (λ (s : Source). s.place) none,
        c.loop-at.invariant.same_end,
        ap length remaining.1,
        length-append remaining.0 c.loop-at.ahead.remaining,
      );
      needed = rw c.slow_path_at.ensures.needed (record {
        inside = inside_over_white c.loop-at.invariant.read.so_far c.loop-at-test.true;
        within = tt;
        read = refl;
        no_longer = omega arith;
      });
    }

pub returns-clause-read : goal.returns-clause-read
returns-clause-read g c =
    rw c.advance_to-2.ensures (row_done c.loop-at.invariant.read
    (omega (arith, reached_over_white c.loop-at.at, c.loop-at.invariant.read.so_far.within, c.loop-at-test.false)))
