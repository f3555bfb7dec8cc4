use Rattle.std.proofs.Common.{◌≡◌, Some, subst, sym}
use Rattle.fax_page.specs.Lines.{white_row}
use Rattle.std.specs.Prelude.{replicate, ◌++◌}
use Rattle.fax_walk.specs.code.Output.{sheet_form}
use Rattle.fax_walk.specs.code.StripsWriter.{HasPutRows}
use Rattle.fax_walk.proofs.OnPaperLemmas.{stays_large}
use Rattle.fax_walk.proofs.OutputLemmas.{on_ok}
use Rattle.fax_walk.proofs.WhiteOutputLemmas.{image_white, white_widths}
use Rattle.fax_walk.proofs.output.Output.put_white_rows.Goals as goal

pub returns-in-Images : goal.returns-in-Images
returns-in-Images c = on_ok c.put_white_rows.result c.put_white_rows.ensures (λ put part written room wide. record {
  widths = white_widths part c.args.width c.args.count written.widths wide;
  has =
      image_white c.packing_undoes_unpacking.ensures part c.args.width c.args.count c.in-Images.parts
      c.put_white_rows.new.self (rw c.in-Images.is at written.has) room wide put;
})

pub returns-in-File-default-default-Some : goal.returns-in-File-default-default-Some
returns-in-File-default-default-Some c =
    let page_is : c.in-File-default-default-Some.field-2 ≡ Some c.in-File-default-default-Some.page =
    c.in-File-default-default-Some.field-2-is in
    on_ok c.put_white_rows-in-File-default-default-Some.result c.put_white_rows-in-File-default-default-Some.ensures
    (λ put part written room wide.
    let has = rw (c.in-File-default-default-Some.is, page_is) at written.has in
    let form = sheet_form part.at.options c.in-File-default-default-Some.field-0 part.sheet in
    let rows = put form part.at.options.k part.rows has.2 room in
    record {
      widths = white_widths part c.args.width c.args.count written.widths wide;
      has = (
        has.0,
        has.1,
        subst (λ w. HasPutRows form part.at.options.k (part.rows ++ replicate c.args.count (white_row w))
            c.put_white_rows-in-File-default-default-Some.new.self) (sym wide) rows,
      );
    })

pub returns-in-TooLarge : goal.returns-in-TooLarge
returns-in-TooLarge c = λ part is room wide.
    rw c.in-TooLarge.is (stays_large part c.args.width c.args.count (rw c.in-TooLarge.is at is) wide)
