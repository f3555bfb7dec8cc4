use Rattle.std.proofs.Common.{arith}
use Rattle.fax_rows.proofs.WrittenPlaceLemmas.{known_bounds}
use Rattle.fax_rows.proofs.WrittenStepLemmas.{horizontal_bits}
use Rattle.fax_rows.proofs.PutBitsLemmas.{on_err, pair_put, pair_stops}
use Rattle.fax_rows.proofs.put_rows.put_far_step.Goals as goal

pub choose-mode-requires-clause-b1 : goal.choose-mode-requires-clause-b1
choose-mode-requires-clause-b1 c = grind (arith, known_bounds)

pub overflow_sub-first : goal.overflow_sub-first
overflow_sub-first c = rw c.unwrap_or.ensures (known_bounds c.requires.changes).a0

pub overflow_sub-second : goal.overflow_sub-second
overflow_sub-second c = (known_bounds c.requires.changes).a1_a2

pub put_pair-requires-clause-first : goal.put_pair-requires-clause-first
put_pair-requires-clause-first c = grind arith

pub put_pair-requires-clause-second : goal.put_pair-requires-clause-second
put_pair-requires-clause-second c = grind (arith, known_bounds)

pub returns-in_err-pending-in-Horizontal-2-clause-err :
    goal.returns-in_err-pending-in-Horizontal-2-clause-err
returns-in_err-pending-in-Horizontal-2-clause-err c =
    let bits = horizontal_bits c.requires.changes c.choose-mode.result c.choose-mode.ensures
    c.in-Horizontal.is in
    on_err c.from_residual-in_err-pending-in-Horizontal-2.result
    (rw (bits, ← c.unwrap_or.ensures)
    (pair_stops c.args.sink.now c.put_mode-in-Horizontal.new.sink c.put_pair.new.sink _ _ _ _
    c.in_ok-pending-in-Horizontal.ensures.ok
    c.in_err-pending-in-Horizontal-2.ensures.err))

pub returns-in_ok-pending-in-Horizontal-2-clause-ok :
    goal.returns-in_ok-pending-in-Horizontal-2-clause-ok
returns-in_ok-pending-in-Horizontal-2-clause-ok c =
    let bits = horizontal_bits c.requires.changes c.choose-mode.result c.choose-mode.ensures
    c.in-Horizontal.is in
    rw (bits, ← c.unwrap_or.ensures)
    (pair_put c.args.sink.now c.put_mode-in-Horizontal.new.sink c.put_pair.new.sink _ _ _ _
    c.in_ok-pending-in-Horizontal.ensures.ok _
    c.in_ok-pending-in-Horizontal-2.ensures.ok)
