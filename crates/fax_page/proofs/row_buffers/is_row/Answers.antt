use Rattle.std.proofs.Common.{refl, sym, subst}
use Rattle.fax_page.specs.Lines.{white_row}
use Rattle.fax_page.specs.views.Reader.{IsBefore}
use Rattle.fax_page.proofs.row_buffers.is_row.Goals as goal

pub returns-in-White-clause-row : goal.returns-in-White-clause-row
returns-in-White-clause-row c = λ _.
    let width = c.args.width in
    (white_row width, subst (λ before. IsBefore width before (white_row width)) (sym c.in-White.is) refl)
