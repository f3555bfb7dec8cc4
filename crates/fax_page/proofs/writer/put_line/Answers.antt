use Rattle.std.proofs.Common.{length}
use Rattle.std.proofs.lemmas.Result.{on_ok_weaker}
use Rattle.fax_page.specs.Strip.{start_bits, row_bits}
use Rattle.fax_page.proofs.WriterLemmas.{appended}
use Rattle.fax_page.proofs.writer.put_line.Goals as goal

pub returns-clause-ok : goal.returns-clause-ok
returns-clause-ok c =
    let form = c.args.form in
    on_ok_weaker c.put_codes.result
    (appended c.args.sink.now c.put_start.new.sink c.put_codes.new.sink
    (start_bits form.coding form.aligned (length c.args.sink.now.bits) c.args.dimension)
    (row_bits c.args.dimension c.args.reference.now c.args.row.now)
    c.in_ok-put_start.ensures.ok)
    c.put_codes.ensures.ok
