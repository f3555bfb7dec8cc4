use Rattle.std.proofs.Common.{arith}
use Rattle.fax_walk.proofs.LongCursorLemmas.{none_before_colon, no_number_before, number_before}
use Rattle.fax_walk.proofs.long_cursor.split_number.Goals as goal

pub returns-in_err-digits : goal.returns-in_err-digits
returns-in_err-digits c =
    let cut = rw c.in_err-digits.was at c.split_once.ensures.cases in
    rw c.from_residual.ensures (none_before_colon c.args.text.now cut)

pub returns-in-Ok : goal.returns-in-Ok
returns-in-Ok c =
    let cut = rw c.in_ok-digits.was at c.split_once.ensures.cases in
    number_before c.args.text.now c.in_ok-digits.digits c.in_ok-digits.rest c.in-Ok.number cut (omega arith)
    c.in-Ok.ensures.ok

pub returns-in-Err : goal.returns-in-Err
returns-in-Err c =
    let cut = rw c.in_ok-digits.was at c.split_once.ensures.cases in
    no_number_before c.args.text.now c.in_ok-digits.digits c.in_ok-digits.rest cut c.in-Err.ensures.err
