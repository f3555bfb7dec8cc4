use Rattle.fax_walk.proofs.SalvageRowLemmas.{before_rows, started_in_page}
use Rattle.fax_walk.proofs.salvage_rows.SalvageRows.begin.Goals as goal

pub invariant_of-result : goal.invariant_of-result
invariant_of-result c =
    started_in_page c.args.strips c.args.form _ _ _ c.requires.form c.requires.limits c.requires.count
    c.bytes_left-whole.ensures.bytes (rw c.strip_form.ensures.exact at c.in_ok-reader.ensures)

pub returns : goal.returns
returns c =
    before_rows c.args.strips.directory c.args.form _ _ _ c.requires.limits c.bytes_left-whole.ensures.bytes
    (rw c.strip_form.ensures.exact at c.in_ok-reader.ensures)
