use Rattle.std.proofs.Common.{◌-◌, ◌*◌, ◌/◌, Err, refl, subst}
use Rattle.std.proofs.lemmas.Result.{err_from_is_err_and}
use Rattle.fax_page.specs.declared.StripForm.{StripForm}
use Rattle.fax_page.specs.views.Salvage.{IsSalvageInside}
use Rattle.fax_walk.proofs.SalvagePlaceLemmas.{started_at, started_at_in_page, holds_row, not_started_at}
use Rattle.fax_walk.proofs.salvage_rows.SalvageRows.begin_at.Goals as goal

pub returns-in_err-reader-clause-err : goal.returns-in_err-reader-clause-err
returns-in_err-reader-clause-err c =
    let n = c.args.form.rows_per_strip in
    let none = subst
    (λ (f : StripForm). IsSalvageInside f c.bytes_left-whole.result.0.now (c.args.row - c.args.row / n * n) c.args.bits
    c.args.before (Err c.in_err-reader.field-0.0))
    c.strip_form-strip_form.ensures.exact c.in_err-reader.ensures in
    let p = err_from_is_err_and c.from_residual.result c.from_residual.ensures.1 in
    rw (p.1, p.2)
    (not_started_at c.args.strips c.args.form c.args.row _ _ c.args.bits _ _ c.args.before
    c.bytes_left-whole.ensures.bytes _ refl refl none)

pub invariant_of-result : goal.invariant_of-result
invariant_of-result c =
    let origin = rw c.strip_form-strip_form.ensures.exact at c.in_ok-reader.ensures in
    started_at_in_page c.args.strips c.args.form c.args.row _ _ c.args.bits _ _ c.args.before
    c.bytes_left-whole.ensures.bytes c.in_ok-reader.reader
    (holds_row c.args.form c.args.row _ c.requires.limits c.requires.upcoming refl) origin.0 origin.2 c.requires.form
    c.requires.limits c.requires.count (c.bits_stand_by_index.ensures.count _ _)

pub returns-clause-ok : goal.returns-clause-ok
returns-clause-ok c =
    let origin = rw c.strip_form-strip_form.ensures.exact at c.in_ok-reader.ensures in
    started_at c.args.strips c.args.form c.args.row _ _ c.args.bits _ _ c.args.before
    c.bytes_left-whole.ensures.bytes c.in_ok-reader.reader
    (holds_row c.args.form c.args.row _ c.requires.limits c.requires.upcoming refl) origin.0 origin.2 origin.1
