use Rattle.std.proofs.lemmas.Result.{on_ok_weaker, on_err_weaker}
use Rattle.std.proofs.lemmas.Grind.{common_steps}
use Rattle.std.proofs.Common.{arith}
use Rattle.fax_rows.specs.Rows.{White, Black}
use Rattle.fax_rows.proofs.PutBitsLemmas.{put_goes_on, on_err, put_stops, put_pending, pending_stops, row_bits_go_on}
use Rattle.fax_rows.proofs.PutBitsLemmas.{row_pair_goes_on, row_bits_end}
use Rattle.fax_rows.proofs.put_rows.put_1d.Goals as goal

pub returns-in_err-pending-clause-err : goal.returns-in_err-pending-clause-err
returns-in_err-pending-clause-err c =
    on_err c.from_residual.result
    (put_stops c.args.sink.now c.loop-white.sink _ _ _ _ _ _ c.loop-white.invariant
    (row_bits_go_on White _ c.loop-white.runs _ c.in-Some.ensures.first) c.in_err-pending.ensures.err)

pub returns-in_default-next_run-clause-ok : goal.returns-in_default-next_run-clause-ok
returns-in_default-next_run-clause-ok c =
    let white = put_goes_on c.args.sink.now c.loop-white.sink c.put_run.new.sink _ _ _ _ _ _ c.loop-white.invariant
    (row_bits_go_on White _ c.loop-white.runs _ c.in-Some.ensures.first) c.in_ok-pending.ensures.ok in
    on_ok_weaker c.put_all.result
    (put_pending c.args.sink.now c.put_run.new.sink c.put_all.new.sink _ _ _ white
    (row_bits_end Black c.next_run.new.self c.in_default-next_run.ensures.first))
    c.put_all.ensures.ok

pub returns-in_default-next_run-clause-err : goal.returns-in_default-next_run-clause-err
returns-in_default-next_run-clause-err c =
    let white = put_goes_on c.args.sink.now c.loop-white.sink c.put_run.new.sink _ _ _ _ _ _ c.loop-white.invariant
    (row_bits_go_on White _ c.loop-white.runs _ c.in-Some.ensures.first) c.in_ok-pending.ensures.ok in
    on_err_weaker c.put_all.result
    (pending_stops white)
    c.put_all.ensures.err

pub returns-in_err-pending-2-clause-err : goal.returns-in_err-pending-2-clause-err
returns-in_err-pending-2-clause-err c =
    on_err c.from_residual-in_err-pending-2.result
    (put_stops c.args.sink.now c.loop-white.sink _ _ _ _ _ _ c.loop-white.invariant
    (row_pair_goes_on _ _ c.loop-white.runs c.next_run.new.self _ c.in-Some.ensures.first
    c.in-Some-next_run.ensures.first)
    c.in_err-pending-2.ensures.err)

pub loop-white-preserved : goal.loop-white-preserved
loop-white-preserved c =
    put_goes_on c.args.sink.now c.loop-white.sink c.put_pair.new.sink _ _ _ _ _ _ c.loop-white.invariant
    (row_pair_goes_on _ _ c.loop-white.runs c.next_run.new.self _ c.in-Some.ensures.first
    c.in-Some-next_run.ensures.first)
    c.in_ok-pending-2.ensures.ok

pub returns-clause-ok : goal.returns-clause-ok
returns-clause-ok c = grind (arith, common_steps, row_bits_end)
