use Rattle.fax_walk.specs.Pages.{IsFormTail}
use Rattle.fax_tool.specs.Text.{line_of_page}
use Rattle.fax_tool.proofs.LineLemmas.{line_put, lines_ended, pages_refused}
use Rattle.fax_tool.proofs.commands.printed_lines.PagesLines.put_next.Goals as goal

pub returns-in_ok-put_page_line-in-Ok-Some-clause-put : goal.returns-in_ok-put_page_line-in-Ok-Some-clause-put
returns-in_ok-put_page_line-in-Ok-Some-clause-put c =
    let hands = rw c.in-Ok-Some.field-0-is at c.in-Ok-Some.ensures in
    line_put line_of_page IsFormTail _ c.args.self.now c.next_page.new.self _ c.args.text.now _ hands.0
    c.in_ok-put_page_line-in-Ok-Some.ensures.ok

pub returns-in-Ok-None-clause-put : goal.returns-in-Ok-None-clause-put
returns-in-Ok-None-clause-put c =
    let ended = rw c.in-Ok-None.field-0-is at c.in-Ok-None.ensures in
    lines_ended line_of_page IsFormTail c.args.self.now c.next_page.new.self _ c.args.text.now ended

pub returns-in_ok-end_of-in-Err-clause-put : goal.returns-in_ok-end_of-in-Err-clause-put
returns-in_ok-end_of-in-Err-clause-put c =
    lines_ended line_of_page IsFormTail c.args.self.now c.next_page.new.self _ c.args.text.now
    (pages_refused c.args.self.now c.next_page.new.self c.in-Err.fault _ c.in-Err.ensures c.in_ok-end_of-in-Err.ensures)
