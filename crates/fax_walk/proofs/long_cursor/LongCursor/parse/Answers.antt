use Rattle.std.proofs.Common.{arith}
use Rattle.std.proofs.lemmas.Result.{err_from_is_err_and}
use Rattle.fax_walk.proofs.LongCursorLemmas.{text_by_numbers, is_long_text}
use Rattle.fax_walk.proofs.long_cursor.LongCursor.parse.Goals as goal

pub returns-in_default-clause-err : goal.returns-in_default-clause-err
returns-in_default-clause-err c = grind (arith, text_by_numbers)

pub returns-in_default-split_number-clause-err : goal.returns-in_default-split_number-clause-err
returns-in_default-split_number-clause-err c = grind (arith, text_by_numbers)

pub returns-in_default-split_number-2-clause-err : goal.returns-in_default-split_number-2-clause-err
returns-in_default-split_number-2-clause-err c = grind (arith, text_by_numbers)

pub returns-in_default-split_number-3-clause-err : goal.returns-in_default-split_number-3-clause-err
returns-in_default-split_number-3-clause-err c = grind (arith, text_by_numbers)

pub returns-then-version-ne-VERSION-clause-err : goal.returns-then-version-ne-VERSION-clause-err
returns-then-version-ne-VERSION-clause-err c = grind (arith, text_by_numbers)

pub returns-in_err-parse_runs-clause-err : goal.returns-in_err-parse_runs-clause-err
returns-in_err-parse_runs-clause-err c = grind (arith, err_from_is_err_and, text_by_numbers)

pub returns-clause-ok : goal.returns-clause-ok
returns-clause-ok c =
    is_long_text c.args.text.now c.in-Some.place.now c.in-Some-split_number.place.now c.in-Some-split_number-2.place.now
    c.in-Some-split_number-3.runs.now c.in-Some.version _ c.in-Some.ensures.0 (omega arith)
    c.in-Some-split_number.ensures.0
    c.in-Some-split_number-2.ensures.0 c.in-Some-split_number-3.ensures.0 c.in_ok-parse_runs.ensures.ok
