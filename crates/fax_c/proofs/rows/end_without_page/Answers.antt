use Rattle.fax_c.proofs.FormsWrittenLemmas.{no_page, no_row}
use Rattle.fax_c.proofs.rows.end_without_page.Goals as goal

pub returns-in-Err-clause-end : goal.returns-in-Err-clause-end
returns-in-Err-clause-end c =
    let ends = rw c.resume-pages.ensures at c.in-Err.ensures.0 in
    rw c.end_at_row.ensures (no_row c.args.file.now c.args.at.page c.args.at.row c.in-Err.end
    (no_page c.args.file.now c.args.at.page c.in-Err.end ends))
