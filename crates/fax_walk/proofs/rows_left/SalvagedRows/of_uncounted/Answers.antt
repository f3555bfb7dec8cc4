use Rattle.fax_walk.proofs.RowsLeftLemmas.{uncounted_at_start, uncounted_started}
use Rattle.fax_walk.proofs.rows_left.SalvagedRows.of_uncounted.Goals as goal

pub invariant_of-result : goal.invariant_of-result
invariant_of-result c =
    uncounted_at_start c.args.form c.args.bytes c.pass_all-end.result c.in_ok-reader.reader c.pass_all-end.new.self
    c.restart.new.self c.row-rows.result c.in_ok-reader.ensures c.pass_all-end.ensures c.restart.ensures
    c.row-rows.ensures.row c.row-rows.ensures.few c.uncounted_rows_are_left_in_one_way.ensures

pub returns : goal.returns
returns c =
    uncounted_started c.args.form c.args.bytes c.pass_all-end.result c.in_ok-reader.reader c.pass_all-end.new.self
    c.restart.new.self c.row-rows.result c.in_ok-reader.ensures c.pass_all-end.ensures c.restart.ensures
    c.row-rows.ensures.row c.row-rows.ensures.few c.uncounted_rows_are_left_in_one_way.ensures
