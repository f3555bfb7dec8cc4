use Rattle.fax_walk.specs.Items.{IsTailFrom}
use Rattle.fax_tool.specs.Text.{line_of_row}
use Rattle.fax_tool.proofs.LineLemmas.{line_put, lines_ended, rows_refused}
use Rattle.fax_tool.proofs.commands.printed_lines.WalkLines.put_next.Goals as goal

pub returns-in_ok-put_row_line-in-Ok-Some-clause-put : goal.returns-in_ok-put_row_line-in-Ok-Some-clause-put
returns-in_ok-put_row_line-in-Ok-Some-clause-put c =
    let next = rw (c.in-Ok-Some.is, c.in-Ok-Some.field-0-is) at c.next_row.follows.holds-at-none in
    line_put line_of_row IsTailFrom _ c.args.self.now _ next.0 c.args.text.now _ next.1
    (rw (next.2.0, next.2.1, next.2.2) c.in_ok-put_row_line-in-Ok-Some.ensures.ok)

pub returns-in-Ok-None-clause-put : goal.returns-in-Ok-None-clause-put
returns-in-Ok-None-clause-put c =
    let ended = rw (c.in-Ok-None.is, c.in-Ok-None.field-0-is) at c.next_row.follows.holds-at-none in
    lines_ended line_of_row IsTailFrom c.args.self.now _ _ c.args.text.now ended

pub returns-in_ok-end_of-in-Err-clause-put : goal.returns-in_ok-end_of-in-Err-clause-put
returns-in_ok-end_of-in-Err-clause-put c =
    let next = rw c.in-Err.is at c.next_row.follows.holds-at-none in
    let ended = rows_refused c.args.self.now c.next_row.follows.lender-at-none c.in-Err.fault _ next
    c.in_ok-end_of-in-Err.ensures in
    lines_ended line_of_row IsTailFrom c.args.self.now _ _ c.args.text.now ended

pub returns-in_ok-end_of-in-Err-clause-tail : goal.returns-in_ok-end_of-in-Err-clause-tail
returns-in_ok-end_of-in-Err-clause-tail c =
    let next = rw c.in-Err.is at c.next_row.follows.holds-at-none in
    let ended = rows_refused c.args.self.now c.next_row.follows.lender-at-none c.in-Err.fault _ next
    c.in_ok-end_of-in-Err.ensures in
    λ lines end. rw ended.2 (λ are. are, λ are. are)
