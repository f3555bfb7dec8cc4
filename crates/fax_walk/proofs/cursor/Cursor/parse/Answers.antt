use Rattle.std.proofs.Common.{◌≢◌}
use Rattle.fax_walk.specs.declared.cursor.Cursor.{Cursor}
use Rattle.fax_walk.specs.Pages.{cursor_text, IsCursor}
use Rattle.fax_walk.proofs.CursorLemmas.{after_version, page_and_row, held_on_err}
use Rattle.fax_walk.proofs.cursor.Cursor.parse.Goals as goal

pub returns-in_default-split_once-clause-err : goal.returns-in_default-split_once-clause-err
returns-in_default-split_once-clause-err c at limits is =
    let after = rw c.in-Some.is at (after_version c.args.text.now at c.split_once.result c.split_once.ensures.cases is)
    in
    rw c.in_default-split_once.is at
    (page_and_row c.in-Some.place.now at c.split_once-2.result c.split_once-2.ensures.cases limits after.1)

pub returns-in_err-number-clause-err : goal.returns-in_err-number-clause-err
returns-in_err-number-clause-err c =
    let refused : (at : Cursor) → IsCursor at → c.args.text.now ≢ cursor_text at = λ at limits is.
    let after = rw c.in-Some.is at (after_version c.args.text.now at c.split_once.result c.split_once.ensures.cases is)
    in
    let parts = rw c.in-Some-split_once.is at
    (page_and_row c.in-Some.place.now at c.split_once-2.result c.split_once-2.ensures.cases limits after.1) in
    c.in_err-number.ensures.err at.page limits.page parts.0 in
    held_on_err c.from_residual.result _ refused

pub returns-in_err-number-2-clause-err : goal.returns-in_err-number-2-clause-err
returns-in_err-number-2-clause-err c =
    let refused : (at : Cursor) → IsCursor at → c.args.text.now ≢ cursor_text at = λ at limits is.
    let after = rw c.in-Some.is at (after_version c.args.text.now at c.split_once.result c.split_once.ensures.cases is)
    in
    let parts = rw c.in-Some-split_once.is at
    (page_and_row c.in-Some.place.now at c.split_once-2.result c.split_once-2.ensures.cases limits after.1) in
    c.in_err-number-2.ensures.err at.row limits.row parts.1 in
    held_on_err c.from_residual-in_err-number-2.result _ refused
