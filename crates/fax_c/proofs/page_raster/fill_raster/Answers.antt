use Rattle.std.proofs.Common.{arith, replicate, set}
use Rattle.std.proofs.lemmas.List.{length-replicate}
use Rattle.fax_c.specs.declared.rows.FaxRow.{FaxRow}
use Rattle.fax_c.specs.Raster.{padded_row}
use Rattle.fax_c.specs.views.Filled.{row_at}
use Rattle.fax_c.proofs.RowsWrittenLemmas.{all_asked, none_written, put_row, stopped}
use Rattle.fax_c.proofs.page_raster.fill_raster.Goals as goal

no_row : FaxRow
no_row = record { at = 0; len = 0; page = 0; row = 0; width = 0 }

pub loop-count-init : goal.loop-count-init
loop-count-init c =
    let table = replicate c.args.asked no_row in
    record {
      law = c.beginnings_have_one_tail.ensures;
      table = table;
      lie = table;
      asked = length-replicate c.args.asked no_row;
      so_far = none_written (padded_row c.args.stride) c.args.walk.now table c.args.out.now
          c.beginnings_have_one_tail.ensures c.requires;
    }

pub loop-count-preserved : goal.loop-count-preserved
loop-count-preserved c =
    let so = c.loop-count.invariant in
    let row = row_at (padded_row c.args.stride) c.loop-count.used c.in-Ok.ensures.0 in
    record {
      law = so.law;
      table = so.table;
      lie = set so.lie c.loop-count.count row;
      asked = so.asked;
      so_far = put_row so.law so.so_far c.in-Ok.to c.put_next_padded.new.walk c.put_next_padded.new.out
          (omega (arith, c.loop-count-test.true, so.asked)) c.in-Ok.ensures;
    }

pub returns-in-Err : goal.returns-in-Err
returns-in-Err c =
    let so = c.loop-count.invariant in (
      so.table,
      so.lie,
      so.asked,
      stopped so.law so.so_far c.in-Err.stop c.put_next_padded.new.walk c.put_next_padded.new.out
          c.cursor-cursor.result (omega (arith, c.loop-count-test.true, so.asked)) c.in-Err.ensures
          c.cursor-cursor.ensures,
    )

pub returns : goal.returns
returns c =
    let so = c.loop-count.invariant in (
      so.table,
      so.lie,
      so.asked,
      all_asked so.law so.so_far c.cursor.result (omega (arith, c.loop-count-test.false, so.asked)) c.cursor.ensures,
    )
