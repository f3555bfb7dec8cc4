use Rattle.fax_tool.proofs.SalvageLineLemmas.{item_put, none_left}
use Rattle.fax_tool.proofs.commands.salvage_lines.SalvageSalvageLines.put_next.Goals as goal

pub returns-in_default-clause-put : goal.returns-in_default-clause-put
returns-in_default-clause-put c =
    none_left c.args.self.now c.next_item.new.self c.args.text.now
    (c.files_are_salvaged_in_one_way.ensures c.args.self.now.file) (rw c.in_default.is at c.in_ok-item.ensures)

pub returns-in_ok-put_found-in-Row-clause-put : goal.returns-in_ok-put_found-in-Row-clause-put
returns-in_ok-put_found-in-Row-clause-put c =
    item_put c.args.self.now c.next_item.new.self c.args.text.now
    (c.files_are_salvaged_in_one_way.ensures c.args.self.now.file) c.in-Some.item c.put_found.new.text
    (rw c.in-Some.is at c.in_ok-item.ensures) (rw c.in-Row.is c.in_ok-put_found-in-Row.ensures.ok)

pub returns-in_ok-put_lost_line-in-Lost-clause-put : goal.returns-in_ok-put_lost_line-in-Lost-clause-put
returns-in_ok-put_lost_line-in-Lost-clause-put c =
    item_put c.args.self.now c.next_item.new.self c.args.text.now
    (c.files_are_salvaged_in_one_way.ensures c.args.self.now.file) c.in-Some.item c.put_lost_line.new.text
    (rw c.in-Some.is at c.in_ok-item.ensures) (rw c.in-Lost.is c.in_ok-put_lost_line-in-Lost.ensures.ok)

pub returns-in_ok-put_refused_line-in-Refused-clause-put : goal.returns-in_ok-put_refused_line-in-Refused-clause-put
returns-in_ok-put_refused_line-in-Refused-clause-put c =
    item_put c.args.self.now c.next_item.new.self c.args.text.now
    (c.files_are_salvaged_in_one_way.ensures c.args.self.now.file) c.in-Some.item c.put_refused_line.new.text
    (rw c.in-Some.is at c.in_ok-item.ensures) (rw c.in-Refused.is c.in_ok-put_refused_line-in-Refused.ensures.ok)
