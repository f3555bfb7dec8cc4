use Rattle.std.proofs.Common.{◌≡◌, ◌+◌, ◌-◌, ◌*◌, ◌/◌, arith}
use Rattle.std.proofs.Math.Nat.{mod-add-div}
use Rattle.std.proofs.lemmas.Result.{on_ok_weaker}
use Rattle.fax_page.proofs.WhiteGroupLemmas.{white_after}
use Rattle.fax_page.proofs.writer.put_many_white_lines.Goals as goal

pub returns-clause-ok : goal.returns-clause-ok
returns-clause-ok c =
    let rows = c.group_rows-rows.result in
    let done = c.args.count / rows * rows in
    let all : done + (c.args.count - done) ≡ c.args.count = omega (arith, mod-add-div c.args.count rows) in
    on_ok_weaker c.put_each_white_line-3.result
    (λ others. white_after c.args.form c.args.k c.args.first done (c.args.count - done) c.args.count c.args.sink.now
    c.put_groups.new.sink c.put_each_white_line-3.new.sink c.in_ok-put_groups.ensures.ok others all)
    c.put_each_white_line-3.ensures.ok
