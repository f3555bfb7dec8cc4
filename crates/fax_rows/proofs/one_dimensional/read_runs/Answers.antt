use Rattle.std.proofs.Common.{◌≡◌, ◌+◌, length, ap, arith, refl}
use Rattle.std.proofs.lemmas.Result.{err_from_is_err_and}
use Rattle.fax_bits.specs.declared.Colour.TheVariants.{White, Black}
use Rattle.fax_bits.specs.views.Source.{Source}
use Rattle.fax_rows.proofs.ChosenRunLemmas.{runs_end}
use Rattle.fax_rows.proofs.PairReadLemmas.{none_read, finish_by_table, pair_read_on, white_read, row_done, row_stops}
use Rattle.fax_rows.proofs.PlacedReadLemmas.{more_room, put_on}
use Rattle.fax_rows.proofs.one_dimensional.read_runs.Goals as goal

pub loop-runs-init : goal.loop-runs-init
loop-runs-init c = rw c.fork-ahead.ensures (record {
  colour = White;
  read = none_read c.args.source.now.remaining _ c.requires.room;
  white = λ h. refl;
  same_end = refl;
})

pub push_change-next-requires-clause-room : goal.push_change-next-requires-clause-room
push_change-next-requires-clause-room c = omega (arith, more_room c.loop-runs.invariant.read.put)

pub push_change-requires-clause-room : goal.push_change-requires-clause-room
push_change-requires-clause-room c =
    omega (
      arith,
      more_room (put_on c.loop-runs.invariant.read.put c.push_change-next.ensures
          (omega (arith, c.in-Some.ensures.within))),
    )

pub loop-runs-preserved-in-Some : goal.loop-runs-preserved-in-Some
loop-runs-preserved-in-Some c =
    let so_far = c.loop-runs.invariant in
    record {
      colour = White;
      read = pair_read_on so_far.read (so_far.white c.loop-runs-test.true) c.loop-runs-test.true c.in-Some.ensures.runs
          c.in-Some.ensures.within c.push_change-next.ensures c.push_change.ensures;
      white = λ h. refl;
      same_end = omega (arith, c.in-Some.ensures.same_end, so_far.same_end);
    }

pub returns-in_err-put_next_run-clause-read : goal.returns-in_err-put_next_run-clause-read
returns-in_err-put_next_run-clause-read c =
    let so_far = c.loop-runs.invariant in
    let read = white_read so_far.read (so_far.white c.loop-runs-test.true) (c.in_default.ensures.unchanged refl) in
    let remaining = c.from_residual in
    let p = err_from_is_err_and remaining.result remaining.ensures.1 in
    rw (p.1, p.2) (row_stops read c.loop-runs-test.true c.in_err-put_next_run.ensures.read)

pub returns-in_err-put_next_run-2-clause-read : goal.returns-in_err-put_next_run-2-clause-read
returns-in_err-put_next_run-2-clause-read c =
    let so_far = c.loop-runs.invariant in
    let first = c.in_ok-put_next_run.ensures in
    let white = white_read so_far.read (so_far.white c.loop-runs-test.true) (c.in_default.ensures.unchanged refl) in
    let read = finish_by_table white c.loop-runs-test.true first.read first.right first.put.within first.toggled
    first.chosen in
    let remaining = c.from_residual-in_err-put_next_run-2 in
    let p = err_from_is_err_and remaining.result remaining.ensures.1 in
    rw (p.1, p.2) (row_stops read c.if-runs-width.true c.in_err-put_next_run-2.ensures.read)

pub loop-runs-preserved-in-Continue-branch-2 : goal.loop-runs-preserved-in-Continue-branch-2
loop-runs-preserved-in-Continue-branch-2 c =
    let so_far = c.loop-runs.invariant in
    let first = c.in_ok-put_next_run.ensures in
    let second = c.in_ok-put_next_run-2.ensures in
    let same = c.in_default.ensures.unchanged refl in
    let white = white_read so_far.read (so_far.white c.loop-runs-test.true) same in
    let read = finish_by_table white c.loop-runs-test.true first.read first.right first.put.within first.toggled
    first.chosen in
    record {
      colour = White;
      read = finish_by_table read c.if-runs-width.true second.read second.right second.put.within second.toggled
          second.chosen;
      white = λ h. refl;
      same_end = omega (
        arith,
        second.same_end,
        first.same_end,
        so_far.same_end,
        ap
            (λ (s : Source). s.place + length s.remaining) same,
      );
    }

pub loop-runs-preserved : goal.loop-runs-preserved
loop-runs-preserved c =
    let so_far = c.loop-runs.invariant in
    let first = c.in_ok-put_next_run.ensures in
    let same = c.in_default.ensures.unchanged refl in
    record {
      colour = Black;
      read = finish_by_table (white_read so_far.read (so_far.white c.loop-runs-test.true) same) c.loop-runs-test.true
          first.read
          first.right
          first.put.within first.toggled first.chosen;
      white = λ h. absurd (omega arith);
      same_end = omega (arith, first.same_end, so_far.same_end, ap (λ (s : Source). s.place + length s.remaining) same);
    }

pub returns-clause-read : goal.returns-clause-read
returns-clause-read c =
    rw c.advance_to.ensures
    (row_done c.loop-runs.invariant.read (let within = c.loop-runs.invariant.read.put.within in omega arith))

pub returns-clause-chosen : goal.returns-clause-chosen
returns-clause-chosen c is =
    let read = c.loop-runs.invariant.read in
    let done : c.loop-runs.runs.total ≡ c.args.width = let within = read.put.within in omega arith in
    rw c.advance_to.ensures
    (runs_end c.one_dimensional_rows_are_read_back.ensures c.args.width c.args.source.now.remaining
    c.loop-runs.runs.total
    c.loop-runs.invariant.colour _ c.loop-runs.ahead.remaining (read.written is) done c.requires.some
    c.requires.short (row_done read done))
