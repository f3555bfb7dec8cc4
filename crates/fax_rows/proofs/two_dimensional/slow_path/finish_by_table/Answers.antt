use Rattle.std.proofs.Common.{refl, length, length-append, ap, ◌∙◌, arith}
use Rattle.std.proofs.lemmas.Result.{err_from_is_err_and}
use Rattle.fax_bits.specs.views.Source.{Source}
use Rattle.fax_rows.specs.code.NeedsTable.{IsNeeded}
use Rattle.fax_rows.proofs.GoesOnLemmas.{rest_there}
use Rattle.fax_rows.proofs.ReadRowLemmas.{read_further, row_done}
use Rattle.fax_rows.proofs.RowStopLemmas.{row_stop}
use Rattle.fax_rows.proofs.two_dimensional.slow_path.finish_by_table.Goals as goal

pub returns-in_err-at-clause-stop : goal.returns-in_err-at-clause-stop
returns-in_err-at-clause-stop g c =
    let slow_path_at = c.requires.slow_path_at in
    let same =
    c.position.ensures slow_path_at.at slow_path_at.a0 slow_path_at.end slow_path_at.b1
    (slow_path_at.needed.inside.so_far.b1
    slow_path_at.needed.inside.unfinished).colour_is in
    let there = ap (λ (s : Source). s.remaining) c.skip_to.ensures
    ∙ rw c.fork-ahead.ensures (rest_there c.args.source.now c.args.slow_path_at.place slow_path_at.front
    slow_path_at.rest slow_path_at.bits
    slow_path_at.place) in
    let needed : IsNeeded c.position.result.position.colour slow_path_at.middle c.args.slow_path_at.needed
    c.skip_to.new.self.remaining =
    rw (same, there) slow_path_at.needed.read in
    let stop = rw same at (c.in_err-at.ensures.stop slow_path_at.middle needed) in
    let p = err_from_is_err_and c.from_residual.result c.from_residual.ensures.1 in
    rw (p.1, p.2) (row_stop slow_path_at.read slow_path_at.needed.inside.unfinished _ stop)

pub loop-ahead-init : goal.loop-ahead-init
loop-ahead-init g c =
    let slow_path_at = c.requires.slow_path_at in
    let same =
    c.position.ensures slow_path_at.at slow_path_at.a0 slow_path_at.end slow_path_at.b1
    (slow_path_at.needed.inside.so_far.b1
    slow_path_at.needed.inside.unfinished).colour_is in
    let there = ap (λ (s : Source). s.remaining) c.skip_to.ensures
    ∙ rw c.fork-ahead.ensures (rest_there c.args.source.now c.args.slow_path_at.place slow_path_at.front
    slow_path_at.rest slow_path_at.bits
    slow_path_at.place) in
    let column = ap (λ (s : Source). s.place) c.skip_to.ensures in
    let needed : IsNeeded c.position.result.position.colour slow_path_at.middle c.args.slow_path_at.needed
    c.skip_to.new.self.remaining =
    rw (same, there) slow_path_at.needed.read in
    let read = rw same at (c.in_ok-at.ensures.read slow_path_at.middle needed) in
    record {
      read = read_further slow_path_at.read read;
      same_end = omega (
        arith,
        c.in_ok-at.ensures.same_end,
        column,
        ap length there,
        slow_path_at.place,
        ap length slow_path_at.bits,
        length-append slow_path_at.front slow_path_at.rest,
      );
    }

pub loop-ahead-preserved : goal.loop-ahead-preserved
loop-ahead-preserved g c =
    record {
      read = read_further c.loop-ahead.invariant.read (c.in_ok-at-2.ensures.read c.loop-ahead.ahead.remaining refl);
      same_end = omega (arith, c.in_ok-at-2.ensures.same_end, c.loop-ahead.invariant.same_end);
    }

pub returns-in_err-at-2-clause-stop : goal.returns-in_err-at-2-clause-stop
returns-in_err-at-2-clause-stop g c =
    let p = err_from_is_err_and c.from_residual-in_err-at-2.result c.from_residual-in_err-at-2.ensures.1 in
    rw (p.1, p.2) (row_stop c.loop-ahead.invariant.read (omega arith) _
    (c.in_err-at-2.ensures.stop c.loop-ahead.ahead.remaining refl))

pub returns-clause-read : goal.returns-clause-read
returns-clause-read g c =
    let read = c.loop-ahead.invariant.read in
    let within = read.so_far.within in rw c.advance_to.ensures (row_done read (omega arith))
