use Rattle.std.proofs.Common.{◌≡◌, Some}
use Rattle.fax_walk.proofs.OutputLemmas.{on_ok, widths_more, image_row}
use Rattle.fax_walk.proofs.output.Output.put_row.Goals as goal

pub returns-in-Images : goal.returns-in-Images
returns-in-Images c = on_ok c.put_row.result c.put_row.ensures (λ put part written upcoming width. record {
  widths = widths_more part.sheet.width part.rows c.args.row.now written.widths width;
  has =
      image_row c.packing_undoes_unpacking.ensures part c.args.row.now c.in-Images.parts c.put_row.new.self
      (rw c.in-Images.is at written.has) upcoming width put;
})

pub returns-in-File-default-default-Some : goal.returns-in-File-default-default-Some
returns-in-File-default-default-Some c =
    let page_is : c.in-File-default-default-Some.field-2 ≡ Some c.in-File-default-default-Some.page =
    c.in-File-default-default-Some.field-2-is in
    on_ok c.put_row-in-File-default-default-Some.result c.put_row-in-File-default-default-Some.ensures
    (λ put part written upcoming width.
    let has = rw (c.in-File-default-default-Some.is, page_is) at written.has in
    record {
      widths = widths_more part.sheet.width part.rows c.args.row.now written.widths width;
      has = (has.0, has.1, put _ _ part.rows has.2 upcoming);
    })

pub returns-in-TooLarge : goal.returns-in-TooLarge
returns-in-TooLarge c = λ part written upcoming width. record {
  widths = widths_more part.sheet.width part.rows c.args.row.now written.widths width;
  has = rw c.in-TooLarge.is (rw c.in-TooLarge.is at written.has);
}
